use Rattle.std.proofs.Common.{◌-◌, ℕ, List, Some, sym, ap₂, subst, ◌∙◌}
use Rattle.registry_slots.specs.declared.orders.By.{By}
use Rattle.registry_slots.specs.Orders.{IsOrder}
use Rattle.table_registry.specs.Tables.{Table, by_for, order_of}
use Rattle.table_registry.proofs.Ranges.{range_count}
use Rattle.table_registry.proofs.table.TableRegistryRegistry.count_of_kind.Goals as goal

pub returns-clause-count : goal.returns-clause-count
returns-clause-count c =
    let t : Table = c.args.self.now in
    let k : List ℕ = c.args.kind.now in
    let way : By = by_for (Some k) in
    let sorted : IsOrder way t.slots (order_of way t) = subst (λ b. IsOrder b t.slots (order_of b t)) c.by_for.ensures (subst (IsOrder c.by_for.result t.slots) c.order-order.ensures.items c.order-order.ensures.order) in
    c.saturating_sub.ensures ∙ ap₂ (λ m n. m - n) c.range_of-start.ensures.end c.range_of-start.ensures.start ∙ sym (range_count k t.slots (order_of way t) sorted)
