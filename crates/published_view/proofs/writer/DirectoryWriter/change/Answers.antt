use Rattle.std.proofs.Common.{ℕ, List, true, sym, ap, subst, ◌∙◌}
use Rattle.std.proofs.lemmas.Bool.{true≢false}
use Rattle.directory_questions.specs.Answers.{is_change_of}
use Rattle.directory_questions.specs.Requests.{IsUnheard}
use Rattle.directory_questions.proofs.Requests.{asked_by, unheard_still}
use Rattle.directory_judge.specs.Sites.{Site}
use Rattle.slp_answer.specs.AskedChanges.{IsAskedAt}
use Rattle.published_view.proofs.Writers.{folded_at, published}
use Rattle.published_view.proofs.writer.DirectoryWriter.change.Goals as goal

pub unreachable-requires : goal.unreachable-requires
unreachable-requires g c = true≢false (sym c.requires ∙ unheard_still c.args.bytes.now (subst IsUnheard c.anywhere-call.ensures.bytes c.in_default.ensures))

pub read_heard-requires : goal.read_heard-requires
read_heard-requires g c = asked_by c.in-Some.heard true (ap (λ (x : List ℕ). is_change_of x) (ap (λ x. x.bytes.now) c.in-Some.ensures ∙ c.anywhere-call.ensures.bytes) ∙ c.requires)

pub hear-requires-clause-change : goal.hear-requires-clause-change
hear-requires-clause-change g c = asked_by c.in-Some.heard true (ap (λ (x : List ℕ). is_change_of x) (ap (λ x. x.bytes.now) c.in-Some.ensures ∙ c.anywhere-call.ensures.bytes) ∙ c.requires)

pub hear-requires-clause-asked : goal.hear-requires-clause-asked
hear-requires-clause-asked g c =
    let fold = folded_at c.self.inside.own c.args.self.now.history c.self.invariant.1 (ap published c.self.view_is) in
    subst (λ (s : Site). IsAskedAt s c.in-Some.heard.call.now.bytes.now c.in_ok-asked.asked) (c.site.ensures ∙ fold.placed) c.in_ok-asked.ensures
