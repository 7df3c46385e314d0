use Rattle.std.proofs.Common.{◌≡◌, ◌∷◌, [], ◌++◌, List, fold, false, sym, ap, ◌∙◌, subst, Result, Ok, Err}
use Rattle.std.specs.Prelude.{MatchResult}
use Rattle.std.specs.Result.{is_err}
use Rattle.published_view.specs.declared.copies.PublishedCopy.{PublishedCopy}
use Rattle.published_view.specs.declared.copies.Step.{Step}
use Rattle.published_view.specs.declared.copies.Operation.{Operation}
use Rattle.published_view.specs.declared.copies.Operation.TheVariants.{Makes}
use Rattle.published_view.specs.Steps.{stepped, operated}
use Rattle.published_view.specs.Rules.{NextOf, history_of}
use Rattle.published_view.proofs.Turns.{leaves}
use Rattle.published_view.proofs.rule.publish_step.Goals as goal

appended : {A B : Type 0} (r : Result A B) (P : Type 0) (Q : B → Type 0) → false ≡ is_err r → MatchResult r (λ _. P) Q → P
appended (Ok x) P Q e m = m
appended (Err x) P Q e m = absurd cc

pub publish_as-requires : goal.publish_as-requires
publish_as-requires g c next is =
    let x : PublishedCopy = c.append.new.self.desk.shown.value in
    let s : Step = c.args.step in
    let book = g.J.Naming.book in
    let opening = g.J.Naming.opening in
    let same : x ≡ c.args.writer.desk.shown.value = ap (λ d. d.shown.value) c.append.ensures.desk in
    let pending = appended c.append.result _ _ c.if-is_err.ensures.value c.append.ensures.pending in
    let here : next ≡ stepped x s = is ∙ ap (λ (more : List Operation). fold operated x more) (pending ∙ ap (λ (more : List Operation). more ++ Makes s ∷ []) c.requires.idle) in
    let owed : NextOf book opening g.Q.Asks.call (history_of x) s = subst (λ (k : PublishedCopy). NextOf book opening g.Q.Asks.call (history_of k) s) (sym same) c.requires.next in
    leaves book opening _ _ g.Q.Asks.call x next s owed here
