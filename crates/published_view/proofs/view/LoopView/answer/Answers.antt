use Rattle.std.proofs.Common.{List, ℕ, false, ap, ◌∙◌}
use Rattle.directory_questions.specs.Answers.{is_change_of}
use Rattle.directory_questions.proofs.Requests.{asked_by}
use Rattle.published_view.proofs.view.LoopView.answer.Goals as goal

pub hear-requires : goal.hear-requires
hear-requires g c = asked_by c.in-Some.heard false (ap (λ (x : List ℕ). is_change_of x) (ap (λ x. x.bytes.now) c.in-Some.ensures) ∙ c.requires.no_change)
