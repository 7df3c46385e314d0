use Rattle.std.proofs.Common.{◌≡◌, ◌<◌, ◌+◌, ◌-◌, ◌∷◌, ℕ, List, drop, get_or, length, Some, None, sym, ap, subst, ◌∙◌, arith}
use Rattle.std.specs.Option.{option_copied}
use Rattle.registry_core.specs.declared.entry.Entry.{Entry as Held}
use Rattle.registry_core.specs.Entries.{if_kept, is_kind}
use Rattle.registry_slots.specs.Slots.{slot_at, gathered}
use Rattle.registry_slots.proofs.Ranks.{held_at}
use Rattle.table_registry.specs.Tables.{Table, by_for, is_wanted, order_of, walked}
use Rattle.table_registry.proofs.Along.{match_same, of_kind, there_same, gather_here}
use Rattle.table_registry.proofs.table.TableRegistryRegistry.by_kind.Goals as goal

pub held-entry-requires : goal.held-entry-requires
held-entry-requires c =
    let t : Table = c.args.self.now in
    let L : List ℕ = c.order-order.result.now.items in
    let e = held_at c.by_for.result t.slots L c.order-order.ensures.order c.args.from c.at.result (omega (arith, c.if-from-len.false, c.len.ensures.value)) (sym c.at.ensures.value) in
    (e.0, ap (λ (t : Table). slot_at t.slots c.at.result) c.self.view_is ∙ e.1)

pub returns-then-is_of_kind-clause-next : goal.returns-then-is_of_kind-clause-next
returns-then-is_of_kind-clause-next c =
    let t : Table = c.args.self.now in
    let L : List ℕ = c.order-order.result.now.items in
    let k = option_copied c.args.kind in
    let i : ℕ = c.args.from in
    let e : Held = c.held-entry.result.now in
    let O : L ≡ order_of (by_for k) t = c.order-order.ensures.items ∙ ap (λ b. order_of b t) c.by_for.ensures in
    let l : i < length L = omega (arith, c.if-from-len.false, c.len.ensures.value) in
    let there : slot_at t.slots (get_or L i 0) ≡ Some e = ap (slot_at t.slots) (sym c.at.ensures.value) ∙ ap (λ (t : Table). slot_at t.slots c.at.result) (sym c.self.view_is) ∙ c.held-entry.ensures in
    subst (λ o. gathered (λ x. if_kept (is_kind k) (slot_at t.slots x)) (drop i o) ≡ e ∷ gathered (λ x. if_kept (is_kind k) (slot_at t.slots x)) (drop (i + 1) o)) O
    (gather_here (is_kind k) t.slots L i e l there (sym c.if-is_of_kind.ensures))

pub returns-then-is_of_kind-clause-there : goal.returns-then-is_of_kind-clause-there
returns-then-is_of_kind-clause-there c =
    let at : c.args.from + 1 - 1 ≡ c.args.from = omega arith in
    ap (walked (by_for (option_copied c.args.kind)) c.args.self.now (is_kind (option_copied c.args.kind))) at ∙ returns-then-is_of_kind-clause-next c

pub returns-clause-next : goal.returns-clause-next
returns-clause-next c =
    let k = option_copied c.args.kind in
    let t = c.args.self.now in
    match_same c.walk.result (walked (by_for k) t (is_wanted None k None)) (walked (by_for k) t (is_kind k)) c.args.from (λ n. of_kind k t.slots (drop n (order_of (by_for k) t))) c.walk.ensures.next

pub returns-clause-there : goal.returns-clause-there
returns-clause-there c =
    let k = option_copied c.args.kind in
    let t = c.args.self.now in
    there_same c.walk.result (walked (by_for k) t (is_wanted None k None)) (walked (by_for k) t (is_kind k)) (λ n. of_kind k t.slots (drop n (order_of (by_for k) t))) c.walk.ensures.there
