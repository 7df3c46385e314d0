use Rattle.std.proofs.Common.{◌≡◌, ◌+◌, ◌∷◌, [], ◌++◌, ◌∙◌, true, false, ap, sym, subst, drop, arith}
use Rattle.std.proofs.lemmas.List.{take_all}
use Rattle.attr_list.specs.Stored.{kept_stored, AreStored}
use Rattle.attr_list.proofs.StoredAttributes.{kept-next, picked_next, stored-next}
use Rattle.attr_list.proofs.combining.pick.Goals as goal
use Rattle.attr_list.proofs.combining.pick.Goals.{then-accepts+in_ok-copy+in_ok-push, else-accepts}

pub loop-entry-preserved : goal.loop-entry-preserved
loop-entry-preserved g c =
    let list = c.args.entries.now in
    let i = c.loop-entry.entry-index in
    let a = c.entry-item.result in
    let was = c.loop-entry.picked.items in
    let now = c.loop-entry.invariant in
    elim c.if-accepts.branch [
      | then-accepts+in_ok-copy+in_ok-push w ↦
          let after : c.if-accepts.picked.items ≡ picked_next was a true = ap (λ v. v.items) w.picked-is ∙ w.in_ok-push.ensures.items ∙ ap (λ x. was ++ x ∷ []) w.in_ok-copy.ensures in
          record {
            picked = λ p answers. after ∙ kept-next list i a c.loop-entry-test.true c.entry-item.is was p true (sym w.if-accepts.true ∙ answers _ _ c.accepts.ensures) (now.picked p answers);
            stored = λ are. subst (λ l. AreStored (l ++ drop (i + 1) list)) (sym after) (stored-next list i a c.loop-entry-test.true c.entry-item.is was true (now.stored are));
          }
      | else-accepts w ↦
          let after : c.if-accepts.picked.items ≡ picked_next was a false = ap (λ v. v.items) w.picked-is in
          record {
            picked = λ p answers. after ∙ kept-next list i a c.loop-entry-test.true c.entry-item.is was p false (sym w.if-accepts.false ∙ answers _ _ c.accepts.ensures) (now.picked p answers);
            stored = λ are. subst (λ l. AreStored (l ++ drop (i + 1) list)) (sym after) (stored-next list i a c.loop-entry-test.true c.entry-item.is was false (now.stored are));
          }
    ]

pub returns-clause-value : goal.returns-clause-value
returns-clause-value g c = λ p answers.
    c.loop-entry.invariant.picked p answers ∙ ap (kept_stored p) (take_all c.loop-entry.entry-index c.args.entries.now (omega (arith, c.loop-entry-test.false)))
