use Rattle.std.proofs.Common.{◌≡◌, ◌-◌, ◌<◌, ℕ, List, true, length, get_or, Some, sym, ap, subst, ◌∙◌, arith}
use Rattle.std.specs.Option.{option_copied}
use Rattle.registry_core.specs.Entries.{are_alike}
use Rattle.registry_slots.specs.Slots.{slot_at}
use Rattle.registry_slots.proofs.Ranks.{held_at, length_most}
use Rattle.registry_slots.proofs.SlotLists.{slot_lt}
use Rattle.table_registry.specs.Tables.{Table, by_for, order_of}
use Rattle.table_registry.proofs.Neighbours.{given-next}
use Rattle.table_registry.proofs.table.TableRegistryRegistry.next_alike.Goals as goal

pub are_one-requires-clause-x : goal.are_one-requires-clause-x
are_one-requires-clause-x c =
    let e = held_at c.by_for.result c.args.self.now.slots c.order-order.result.now.items c.order-order.ensures.order (c.args.from - 1) c.at-last.result (omega (arith, c.if-from-len.false, c.len.ensures.value)) (sym c.at-last.ensures.value) in
    slot_lt c.args.self.now.slots c.at-last.result e.0 e.1

pub are_one-requires-clause-y : goal.are_one-requires-clause-y
are_one-requires-clause-y c =
    let e = held_at c.by_for.result c.args.self.now.slots c.order-order.result.now.items c.order-order.ensures.order c.args.from c.at-next.result (omega (arith, c.if-from-len.false, c.len.ensures.value)) (sym c.at-next.ensures.value) in
    slot_lt c.args.self.now.slots c.at-next.result e.0 e.1

pub held-requires : goal.held-requires
held-requires c =
    let e = held_at c.by_for.result c.args.self.now.slots c.order-order.result.now.items c.order-order.ensures.order c.args.from c.at-next.result (omega (arith, c.if-from-len.false, c.len.ensures.value)) (sym c.at-next.ensures.value) in
    (e.0, ap (λ (t : Table). slot_at t.slots c.at-next.result) c.self.view_is ∙ e.1)

pub returns-clause-next : goal.returns-clause-next
returns-clause-next c = λ e is.
    let k = option_copied c.args.kind in
    let t : Table = c.args.self.now in
    let S = t.slots in
    let O : c.order-order.result.now.items ≡ order_of (by_for k) t = c.order-order.ensures.items ∙ ap (λ b. order_of b t) c.by_for.ensures in
    let last = held_at c.by_for.result c.args.self.now.slots c.order-order.result.now.items c.order-order.ensures.order (c.args.from - 1) c.at-last.result (omega (arith, c.if-from-len.false, c.len.ensures.value)) (sym c.at-last.ensures.value) in
    let next : slot_at S c.at-next.result ≡ Some c.held.result.now = ap (λ (t : Table). slot_at t.slots c.at-next.result) (sym c.self.view_is) ∙ c.held.ensures in
    let alike : are_alike last.0 c.held.result.now ≡ true = c.are_one.ensures c.if-not-are_one.false last.0 c.held.result.now last.1 next in
    given-next k S (order_of (by_for k) t) c.args.from e last.0 c.held.result.now (omega (arith, c.if-from-eq0.false))
    (subst (λ (o : List ℕ). c.args.from < length o) O (omega (arith, c.if-from-len.false, c.len.ensures.value)))
    (ap (λ (o : List ℕ). slot_at S (get_or o (c.args.from - 1) 0)) (sym O) ∙ ap (slot_at S) (sym c.at-last.ensures.value) ∙ last.1)
    (ap (λ (o : List ℕ). slot_at S (get_or o c.args.from 0)) (sym O) ∙ ap (slot_at S) (sym c.at-next.ensures.value) ∙ next)
    alike is

pub returns-clause-within : goal.returns-clause-within
returns-clause-within c =
    omega (arith, c.if-from-len.false, c.len.ensures.value, length_most c.by_for.result c.args.self.now.slots c.order-order.result.now.items c.order-order.ensures.order, c.self.invariant.room, ap (λ (t : Table). length t.slots) c.self.view_is)
