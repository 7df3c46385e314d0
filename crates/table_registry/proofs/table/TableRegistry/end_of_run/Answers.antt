use Rattle.std.proofs.Common.{◌≡◌, ℕ, List, true, drop, get_or, Option, Some, sym, ap, subst, ◌∙◌, arith, inl, inr}
use Rattle.std.proofs.lemmas.Bool.{cases_eq}
use Rattle.registry_core.specs.declared.entry.Entry.{Entry as Held}
use Rattle.registry_core.specs.Entries.{are_alike, if_kept, PassesAlike}
use Rattle.registry_slots.specs.Slots.{slot_at, gathered}
use Rattle.registry_core.proofs.Alike.{alike-both}
use Rattle.registry_slots.proofs.Numbered.{alike-turned}
use Rattle.registry_slots.proofs.Ranks.{held_at}
use Rattle.registry_slots.proofs.SlotLists.{one_some, slot_lt}
use Rattle.table_registry.specs.Tables.{Table}
use Rattle.table_registry.proofs.Skipped.{skipped}
use Rattle.table_registry.proofs.table.TableRegistry.end_of_run.Goals as goal

pub held-requires : goal.held-requires
held-requires c =
    let e = held_at c.args.by c.args.self.now.slots c.order-order.result.now.items c.order-order.ensures.order c.args.from c.at-first.result (omega (arith, c.if-from-len.false, c.len.ensures.value)) (sym c.at-first.ensures.value) in
    (e.0, ap (λ (t : Table). slot_at t.slots c.at-first.result) c.self.view_is ∙ e.1)

pub are_one-requires-clause-x : goal.are_one-requires-clause-x
are_one-requires-clause-x c =
    let e = held_at c.args.by c.args.self.now.slots c.order-order.result.now.items c.order-order.ensures.order c.args.from c.at-first.result (omega (arith, c.if-from-len.false, c.len.ensures.value)) (sym c.at-first.ensures.value) in
    slot_lt c.args.self.now.slots c.at-first.result e.0 e.1

pub are_one-requires-clause-y : goal.are_one-requires-clause-y
are_one-requires-clause-y c =
    let e = held_at c.args.by c.args.self.now.slots c.order-order.result.now.items c.order-order.ensures.order c.loop-at.at c.at.result (omega (arith, c.loop-at-test.true, c.len-in-loop-at.ensures.value)) (sym c.at.ensures.value) in
    slot_lt c.args.self.now.slots c.at.result e.0 e.1

pub loop-at-init : goal.loop-at-init
loop-at-init c =
    let L : List ℕ = c.order-order.result.now.items in
    let S : List (Option Held) = c.args.self.now.slots in
    let there : slot_at S c.at-first.result ≡ Some c.held.result.now = ap (λ (t : Table). slot_at t.slots c.at-first.result) (sym c.self.view_is) ∙ c.held.ensures in
    record {
      onward = omega arith;
      within = omega (arith, c.if-from-len.false, c.len.ensures.value);
      passed = λ j f low high at_j.
          let first : j ≡ c.args.from = omega (arith, low, high) in
          ap (are_alike c.args.entry.now) (one_some (sym at_j ∙ ap (λ n. slot_at S (get_or L n 0)) first ∙ ap (slot_at S) (sym c.at-first.ensures.value) ∙ there)) ∙ sym c.is_alike.ensures ∙ c.if-not-is_alike.false;
    }

pub loop-at-preserved : goal.loop-at-preserved
loop-at-preserved c =
    let L : List ℕ = c.order-order.result.now.items in
    let S : List (Option Held) = c.args.self.now.slots in
    let there : slot_at S c.at-first.result ≡ Some c.held.result.now = ap (λ (t : Table). slot_at t.slots c.at-first.result) (sym c.self.view_is) ∙ c.held.ensures in
    record {
      onward = omega (arith, c.loop-at.invariant.onward);
      within = omega (arith, c.loop-at-test.true, c.len-in-loop-at.ensures.value);
      passed = λ j f low high at_j. elim (cases_eq j c.loop-at.at) [
        | inl same ↦
            let next : slot_at S c.at.result ≡ Some f = ap (slot_at S) (c.at.ensures.value ∙ ap (λ n. get_or L n 0) (sym same)) ∙ at_j in
            let alike : are_alike c.held.result.now f ≡ true = c.are_one.ensures c.if-are_one.true c.held.result.now f there next in
            alike-both c.held.result.now c.args.entry.now f (alike-turned c.args.entry.now c.held.result.now (sym c.is_alike.ensures ∙ c.if-not-is_alike.false)) alike
        | inr d ↦ c.loop-at.invariant.passed j f low (omega (arith, high, d)) at_j
      ];
    }

pub returns-else-are_one-clause-passes : goal.returns-else-are_one-clause-passes
returns-else-are_one-clause-passes c = λ p.
    let S : List (Option Held) = c.args.self.now.slots in
    subst (λ o. PassesAlike c.args.entry.now (gathered (λ x. if_kept p (slot_at S x)) (drop c.args.from o)) (gathered (λ x. if_kept p (slot_at S x)) (drop c.loop-at.at o))) c.order-order.ensures.items
    (skipped S p c.order-order.result.now.items (λ f. are_alike c.args.entry.now f ≡ true) c.args.from c.loop-at.at c.loop-at.invariant.within c.loop-at.invariant.passed c.loop-at.invariant.onward)

pub returns-after-loop-at-clause-passes : goal.returns-after-loop-at-clause-passes
returns-after-loop-at-clause-passes c = λ p.
    let S : List (Option Held) = c.args.self.now.slots in
    subst (λ o. PassesAlike c.args.entry.now (gathered (λ x. if_kept p (slot_at S x)) (drop c.args.from o)) (gathered (λ x. if_kept p (slot_at S x)) (drop c.loop-at.at o))) c.order-order.ensures.items
    (skipped S p c.order-order.result.now.items (λ f. are_alike c.args.entry.now f ≡ true) c.args.from c.loop-at.at c.loop-at.invariant.within c.loop-at.invariant.passed c.loop-at.invariant.onward)
