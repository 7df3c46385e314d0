use Rattle.std.proofs.Common.{◌≡◌, ◌≤◌, ◌<◌, ◌+◌, ℕ, true, List, length, get_or, Some, sym, ap, subst, ◌∙◌, arith}
use Rattle.std.specs.Option.{option_copied}
use Rattle.registry_slots.specs.Slots.{slot_at, tests}
use Rattle.registry_slots.specs.Orders.{IsOrder}
use Rattle.registry_slots.proofs.Ranks.{held_at}
use Rattle.table_registry.specs.Tables.{Table, NoneIn, by_for, order_of, is_wanted, is_past}
use Rattle.table_registry.proofs.Along.{NoneIn-more, NoneIn-join, NoneIn-wanted, past_none}
use Rattle.table_registry.proofs.table.TableRegistry.next_wanted.Goals as goal

pub loop-at-init : goal.loop-at-init
loop-at-init c =
    let kd = option_copied c.args.kind in
    let t : Table = c.args.self.now in
    let p = is_wanted (option_copied c.args.bound) kd (option_copied c.args.scope) in
    let O : c.order-order.result.now.items ≡ order_of (by_for kd) t = c.order-order.ensures.items ∙ ap (λ b. order_of b t) c.by_for-by.ensures in
    record {
      onward = c.start-at.ensures.onward;
      passed = subst (λ o. NoneIn p t.slots o c.args.from c.start-at.result) (sym O)
          (NoneIn-wanted (option_copied c.args.bound) kd (option_copied c.args.scope) t.slots (order_of (by_for kd) t) c.args.from c.start-at.result c.start-at.ensures.none);
    }

pub held-entry-requires : goal.held-entry-requires
held-entry-requires c =
    let t : Table = c.args.self.now in
    let L : List ℕ = c.order-order.result.now.items in
    let e = held_at c.by_for-by.result t.slots L c.order-order.ensures.order c.loop-at.at c.at.result (omega (arith, c.loop-at-test.true, c.len.ensures.value)) (sym c.at.ensures.value) in
    (e.0, ap (λ (t : Table). slot_at t.slots c.at.result) c.self.view_is ∙ e.1)

pub loop-at-preserved : goal.loop-at-preserved
loop-at-preserved c =
    let t : Table = c.args.self.now in
    let L : List ℕ = c.order-order.result.now.items in
    let p = is_wanted (option_copied c.args.bound) (option_copied c.args.kind) (option_copied c.args.scope) in
    let there : slot_at t.slots (get_or L c.loop-at.at 0) ≡ Some c.held-entry.result.now = ap (slot_at t.slots) (sym c.at.ensures.value) ∙ ap (λ (t : Table). slot_at t.slots c.at.result) (sym c.self.view_is) ∙ c.held-entry.ensures in
    record {
      onward = omega (arith, c.loop-at.invariant.onward);
      passed = NoneIn-more p t.slots L c.args.from c.loop-at.at c.loop-at.invariant.passed (ap (tests p) there ∙ sym c.if-takes.ensures);
    }

pub returns-then-takes : goal.returns-then-takes
returns-then-takes c =
    let t : Table = c.args.self.now in
    let L : List ℕ = c.order-order.result.now.items in
    let i : ℕ = c.loop-at.at in
    let p = is_wanted (option_copied c.args.bound) (option_copied c.args.kind) (option_copied c.args.scope) in
    let O : L ≡ order_of (by_for (option_copied c.args.kind)) t = c.order-order.ensures.items ∙ ap (λ b. order_of b t) c.by_for-by.ensures in
    let there : slot_at t.slots (get_or L i 0) ≡ Some c.held-entry.result.now = ap (slot_at t.slots) (sym c.at.ensures.value) ∙ ap (λ (t : Table). slot_at t.slots c.at.result) (sym c.self.view_is) ∙ c.held-entry.ensures in
    subst (λ (o : List ℕ). (c.args.from ≤ i) × (i < length o) × NoneIn p t.slots o c.args.from i × (tests p (slot_at t.slots (get_or o i 0)) ≡ true)) O
    (c.loop-at.invariant.onward, omega (arith, c.loop-at-test.true, c.len.ensures.value), c.loop-at.invariant.passed, ap (tests p) there ∙ sym c.if-takes.ensures)

pub returns-then-is_past : goal.returns-then-is_past
returns-then-is_past c =
    let bd = option_copied c.args.bound in
    let kd = option_copied c.args.kind in
    let sc = option_copied c.args.scope in
    let t : Table = c.args.self.now in
    let L : List ℕ = c.order-order.result.now.items in
    let i : ℕ = c.loop-at.at in
    let p = is_wanted bd kd sc in
    let O : L ≡ order_of (by_for kd) t = c.order-order.ensures.items ∙ ap (λ b. order_of b t) c.by_for-by.ensures in
    let there : slot_at t.slots (get_or L i 0) ≡ Some c.held-entry.result.now = ap (slot_at t.slots) (sym c.at.ensures.value) ∙ ap (λ (t : Table). slot_at t.slots c.at.result) (sym c.self.view_is) ∙ c.held-entry.ensures in
    let past : tests (is_past (by_for kd) kd bd) (slot_at t.slots (get_or L i 0)) ≡ true = ap (tests (is_past (by_for kd) kd bd)) there ∙ ap (λ b. is_past b kd bd c.held-entry.result.now) (sym c.by_for-by.ensures) ∙ sym c.if-is_past.ensures in
    let sorted : IsOrder (by_for kd) t.slots L = subst (λ b. IsOrder b t.slots L) c.by_for-by.ensures c.order-order.ensures.order in
    subst (λ o. NoneIn p t.slots o c.args.from (length o)) O
    (NoneIn-join p t.slots L c.args.from (i + 1) (length L)
    (NoneIn-more p t.slots L c.args.from i c.loop-at.invariant.passed (ap (tests p) there ∙ sym c.if-takes.ensures))
    (past_none bd kd sc t.slots L sorted i past))

pub returns : goal.returns
returns c =
    let t : Table = c.args.self.now in
    let L : List ℕ = c.order-order.result.now.items in
    let p = is_wanted (option_copied c.args.bound) (option_copied c.args.kind) (option_copied c.args.scope) in
    let O : L ≡ order_of (by_for (option_copied c.args.kind)) t = c.order-order.ensures.items ∙ ap (λ b. order_of b t) c.by_for-by.ensures in
    subst (λ o. NoneIn p t.slots o c.args.from (length o)) O (λ j l m. c.loop-at.invariant.passed j l (omega (arith, m, c.loop-at-test.false, c.len.ensures.value)))
