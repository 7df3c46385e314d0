use Rattle.std.proofs.Common.{◌≡◌, [], ◌∷◌, Option, Some, true, false, sym, ap, ◌∙◌, subst, Result, Ok, Err}
use Rattle.std.specs.Option.{option_map_or}
use Rattle.std.specs.Prelude.{MatchResult, IsSomeAnd}
use Rattle.std.specs.Result.{is_err}
use Rattle.left_right.specs.Sides.{view}
use Rattle.directory_judge.specs.Contents.{content}
use Rattle.directory_state.specs.State.{state_made}
use Rattle.history_log.specs.Events.{history_in}
use Rattle.published_view.specs.Changes.{Writing}
use Rattle.published_view.specs.Traces.{Wrote}
use Rattle.published_view.specs.declared.copies.PublishedCopy.{PublishedCopy}
use Rattle.published_view.specs.declared.copies.Step.{Step}
use Rattle.published_view.specs.Rules.{IsAfter, history_of}
use Rattle.published_view.specs.Steps.{stepped}
use Rattle.published_view.proofs.writer.DirectoryWriter.publish.Goals as goal

published : {A B : Type 0} (r : Result A B) (P : Type 0) (Q : B → Type 0) → false ≡ is_err r → MatchResult r (λ _. P) Q → P
published (Ok x) P Q e m = m
published (Err x) P Q e m = absurd cc

refused : {A B : Type 0} (r : Result A B) (P : A → Type 0) (Q : Type 0) → true ≡ is_err r → MatchResult r P (λ _. Q) → Q
refused (Ok x) P Q e m = absurd cc
refused (Err x) P Q e m = m

true_false : {A : Type 0} → true ≡ false → A
true_false e = absurd cc

held : {A : Type 0} (o : Option A) (P : A → Type 0) (x : A) → o ≡ Some x → IsSomeAnd o P → P x
held o P x e m = subst (λ y. IsSomeAnd y P) e m

-- steps that are alike make the same of copies that are the same
stepped_alike : (k l : PublishedCopy) (s t : Step) → k ≡ l → content s.change ≡ content t.change → s.trail ≡ t.trail → stepped k s ≡ stepped l t
stepped_alike k l s t same changes trails = λ i. record { directory = state_made (changes i) (same i).directory; trail = trails i }

pub invariant_of-self : goal.invariant_of-self
invariant_of-self g c =
    let there : c.self.inside.writer ≡ Some c.unwrap-writer.result = cc (c.take.ensures.value, c.unwrap-writer.ensures) in
    let was = held _ _ c.unwrap-writer.result there c.self.invariant.0 in
    let kept = refused c.publish_step-writer.result.1 _ _ c.if-is_err.ensures.value c.publish_step-writer.ensures in
    rw c.put_back.ensures ((was.0 ∙ sym kept.0, λ shut. true_false shut), c.self.invariant.1)

pub invariant_of-self-2 : goal.invariant_of-self-2
invariant_of-self-2 g c =
    let there : c.self.inside.writer ≡ Some c.unwrap-writer.result = cc (c.take.ensures.value, c.unwrap-writer.ensures) in
    let was = held _ _ c.unwrap-writer.result there c.self.invariant.0 in
    let made = published c.publish_step-writer.result.1 _ _ c.if-is_err.ensures.value c.publish_step-writer.ensures in
    let alike = stepped_alike c.self.inside.own c.unwrap-writer.result.desk.shown.value c.args.mine c.args.step was.0 c.requires.alike c.requires.together in
    let own : c.take_in.new.self ≡ c.publish_step-writer.result.0.desk.shown.value = c.take_in.ensures ∙ (alike ∙ sym made.0) in
    rw c.put_back.ensures ((own, λ _. made.1), subst (λ (k : PublishedCopy). IsAfter g.J.Naming.book g.J.Naming.opening k) (sym own) made.2)

pub returns-clause-made : goal.returns-clause-made
returns-clause-made g c =
    let there : c.self.inside.writer ≡ Some c.unwrap-writer.result = cc (c.take.ensures.value, c.unwrap-writer.ensures) in
    let was = held _ _ c.unwrap-writer.result there c.self.invariant.0 in
    let made = published c.publish_step-writer.result.1 _ _ c.if-is_err.ensures.value c.publish_step-writer.ensures in
    let own : history_of c.take_in.new.self ≡ history_in c.args.step.trail.seen.log = ap history_of c.take_in.ensures ∙ ap (λ t. history_in t.seen.log) c.requires.together in
    let here : history_of c.publish_step-writer.result.0.desk.shown.value ≡ history_in c.args.step.trail.seen.log = ap history_of made.0 in
    let before : view c.unwrap-writer.result.desk.place ≡ c.args.self.now.trace = sym (ap (λ o. option_map_or (λ x. view x.desk.place) o []) there) ∙ ap (λ (w : Writing). w.trace) c.self.view_is in
    let after : option_map_or (λ x. view x.desk.place) c.put_back.new.home [] ≡ Wrote (history_in c.args.step.trail.seen.log) g.Q.Asks.call ∷ c.args.self.now.trace =
    ap (λ o. option_map_or (λ x. view x.desk.place) o []) c.put_back.ensures ∙ (made.3 ∙ (λ i. Wrote (here i) g.Q.Asks.call ∷ before i)) in
    let not_shut : c.self.inside.shut ≡ false = ap (λ (w : Writing). w.is_shut) c.self.view_is ∙ c.requires.open in
    λ i. record { history = own i; trace = after i; is_shut = not_shut i }
