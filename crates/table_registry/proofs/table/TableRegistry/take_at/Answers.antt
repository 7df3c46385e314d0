use Rattle.std.proofs.Common.{◌≡◌, ◌<◌, ℕ, List, None, set, length, sym, ap, subst, ◌∙◌, arith}
use Rattle.std.specs.Prelude.{Option}
use Rattle.std.proofs.lemmas.List.{length-set}
use Rattle.registry_core.specs.declared.entry.Entry.{Entry as Held}
use Rattle.registry_slots.specs.declared.orders.By.TheVariants as by
use Rattle.registry_slots.specs.Numbering.{AreNumbered}
use Rattle.registry_slots.specs.Orders.{IsOrder}
use Rattle.registry_slots.proofs.SlotLists.{slot_lt}
use Rattle.registry_slots.proofs.Ranks.{IsOrder-drop, held_at}
use Rattle.table_registry.specs.Tables.{Table}
use Rattle.registry_slots.proofs.Numbered.{numbered-clear}
use Rattle.table_registry.proofs.table.TableRegistry.take_at.Goals as goal

pub take_out-requires-clause-held : goal.take_out-requires-clause-held
take_out-requires-clause-held c = held_at by.Place c.self.inside.slots.slots c.self.inside.places.items c.self.invariant.places c.args.at c.at-x.result (subst (λ (t : Table). c.args.at < length t.places) (sym c.self.view_is) c.requires) (sym c.at-x.ensures.value)

pub take_out-requires-2-clause-held : goal.take_out-requires-2-clause-held
take_out-requires-2-clause-held c = held_at by.Place c.self.inside.slots.slots c.self.inside.places.items c.self.invariant.places c.args.at c.at-x.result (subst (λ (t : Table). c.args.at < length t.places) (sym c.self.view_is) c.requires) (sym c.at-x.ensures.value)

pub clear-requires : goal.clear-requires
clear-requires c = let e = held_at by.Place c.self.inside.slots.slots c.self.inside.places.items c.self.invariant.places c.args.at c.at-x.result (subst (λ (t : Table). c.args.at < length t.places) (sym c.self.view_is) c.requires) (sym c.at-x.ensures.value) in slot_lt c.self.inside.slots.slots c.at-x.result e.0 e.1

pub invariant_of-self : goal.invariant_of-self
invariant_of-self c =
    let S : List (Option Held) = c.self.inside.slots.slots in
    let P : List ℕ = c.self.inside.places.items in
    let x : ℕ = c.at-x.result in
    let within : c.args.at < length P = subst (λ (t : Table). c.args.at < length t.places) (sym c.self.view_is) c.requires in
    let e = held_at by.Place S P c.self.invariant.places c.args.at x within (sym c.at-x.ensures.value) in
    let size : length c.clear.new.self.slots ≡ length S = ap length c.clear.ensures ∙ length-set S x None in
    record {
      numbered = subst (λ ss. AreNumbered ss c.self.inside.alikes) (sym c.clear.ensures) (numbered-clear S c.self.inside.alikes c.self.invariant.numbered x (slot_lt S x e.0 e.1));
      each = omega (arith, size, c.self.invariant.each);
      places = subst (λ ss. IsOrder by.Place ss c.remove.new.self.items) (sym c.clear.ensures) (subst (IsOrder by.Place (set S x None)) (sym c.remove.ensures.items) (IsOrder-drop by.Place S P c.args.at x e.0 c.self.invariant.places within (sym c.at-x.ensures.value) e.1));
      roots = subst (λ ss. IsOrder by.Root ss c.take_out.new.order.items) (sym c.clear.ensures) c.take_out.ensures.order;
      kinds = subst (λ ss. IsOrder by.Kind ss c.take_out-2.new.order.items) (sym c.clear.ensures) c.take_out-2.ensures.order;
      places_room = omega (arith, size, c.self.invariant.places_room, c.remove.ensures.room);
      roots_room = omega (arith, size, c.self.invariant.roots_room, c.take_out.ensures.room);
      kinds_room = omega (arith, size, c.self.invariant.kinds_room, c.take_out-2.ensures.room);
      room = omega (arith, size, c.self.invariant.room);
    }
