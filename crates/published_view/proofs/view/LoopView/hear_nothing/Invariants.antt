use Rattle.std.proofs.Common.{Some}
use Rattle.directory_questions.specs.Calls.{call_in}
use Rattle.published_view.proofs.view.LoopView.hear_nothing.Given as goal

-- what is called
abbrev pub ghosts-unheard : goal.ghosts-unheard
ghosts-unheard g a = record { call = Some (call_in a.call.now) }
