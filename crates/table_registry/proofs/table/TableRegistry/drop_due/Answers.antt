use Rattle.std.proofs.Common.{List, sym, subst, arith}
use Rattle.std.specs.Prelude.{Option, Bool}
use Rattle.registry_core.specs.declared.entry.Entry.{Entry as Held}
use Rattle.registry_slots.specs.declared.orders.By.TheVariants as by
use Rattle.registry_core.specs.Entries.{outlives}
use Rattle.registry_slots.specs.Orders.{IsOrder}
use Rattle.registry_slots.proofs.Ranks.{IsOrder-kept}
use Rattle.registry_slots.proofs.Numbered.{numbered-kept}
use Rattle.table_registry.proofs.table.TableRegistry.drop_due.Goals as goal

pub invariant_of-self : goal.invariant_of-self
invariant_of-self c =
    let S : List (Option Held) = c.self.inside.slots.slots in
    let N : List (Option Held) = c.clear_due.new.self.slots in
    let p : Held → Bool = (outlives c.args.now) in
    record {
      numbered = numbered-kept p S N c.self.inside.alikes c.clear_due.ensures.each c.self.invariant.numbered;
      each = omega (arith, c.clear_due.ensures.room, c.self.invariant.each);
      places = subst (IsOrder by.Place N) (sym c.keep_held.ensures.items) (IsOrder-kept by.Place S N c.self.inside.places.items p c.self.invariant.places c.clear_due.ensures.each);
      roots = subst (IsOrder by.Root N) (sym c.keep_held-2.ensures.items) (IsOrder-kept by.Root S N c.self.inside.roots.items p c.self.invariant.roots c.clear_due.ensures.each);
      kinds = subst (IsOrder by.Kind N) (sym c.keep_held-3.ensures.items) (IsOrder-kept by.Kind S N c.self.inside.kinds.items p c.self.invariant.kinds c.clear_due.ensures.each);
      places_room = omega (arith, c.clear_due.ensures.room, c.self.invariant.places_room, c.keep_held.ensures.room);
      roots_room = omega (arith, c.clear_due.ensures.room, c.self.invariant.roots_room, c.keep_held-2.ensures.room);
      kinds_room = omega (arith, c.clear_due.ensures.room, c.self.invariant.kinds_room, c.keep_held-3.ensures.room);
      room = omega (arith, c.clear_due.ensures.room, c.self.invariant.room);
    }
