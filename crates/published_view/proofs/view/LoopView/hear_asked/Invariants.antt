use Rattle.std.proofs.Common.{Some}
use Rattle.directory_questions.specs.Calls.{call_in}
use Rattle.published_view.proofs.view.LoopView.hear_asked.Given as goal

-- what is asked
abbrev pub ghosts-answered : goal.ghosts-answered
ghosts-answered g a = record { call = Some (call_in a.heard.now.call.now) }
