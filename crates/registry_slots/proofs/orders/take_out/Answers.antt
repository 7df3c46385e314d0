use Rattle.std.proofs.Common.{List, ℕ, None, set, sym, subst}
use Rattle.std.specs.Prelude.{Option}
use Rattle.registry_core.specs.declared.entry.Entry.{Entry as Held}
use Rattle.registry_slots.specs.Orders.{IsOrder}
use Rattle.registry_slots.proofs.Ranks.{IsOrder-drop}
use Rattle.registry_slots.proofs.orders.take_out.Goals as goal

pub returns-clause-order : goal.returns-clause-order
returns-clause-order c =
    let S : List (Option Held) = c.args.slots.now.slots in
    let O : List ℕ = c.args.order.now.items in
    subst (IsOrder c.args.by (set S c.args.x None)) (sym c.remove.ensures.items)
    (IsOrder-drop c.args.by S O c.stand_of-at.result c.args.x c.requires.held.0 c.requires.order c.stand_of-at.ensures.within c.stand_of-at.ensures.there c.requires.held.1)
