use Rattle.std.proofs.Common.{ℕ, true, List, sym, ap, subst, ◌∙◌}
use Rattle.std.proofs.lemmas.Bool.{true≢false}
use Rattle.directory_questions.specs.Answers.{is_change_of}
use Rattle.directory_questions.specs.Requests.{IsUnheard}
use Rattle.directory_questions.proofs.Requests.{asked_by, unheard_still}
use Rattle.slp_answer.proofs.calls.acknowledge.Goals as goal

pub unreachable-requires : goal.unreachable-requires
unreachable-requires g c = true≢false (sym c.requires ∙ unheard_still c.args.bytes.now (subst (λ (b : List ℕ). IsUnheard b) c.anywhere-call.ensures.bytes c.in_default.ensures))

pub acknowledge_unread-told-requires-clause-change : goal.acknowledge_unread-told-requires-clause-change
acknowledge_unread-told-requires-clause-change g c =
    asked_by c.in-Some.heard true (ap (λ (x : List ℕ). is_change_of x) (ap (λ x. x.bytes.now) c.in-Some.ensures ∙ c.anywhere-call.ensures.bytes) ∙ c.requires)
