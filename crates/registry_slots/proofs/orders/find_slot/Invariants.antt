use Rattle.std.proofs.Common.{◌≡◌, ◌-◌, ◌≤◌, ◌⊎◌, [], length, get_or}
use Rattle.std.specs.declared.cmp.Ordering.TheVariants.{Greater}
use Rattle.registry_slots.specs.declared.orders.By.TheVariants as by
use Rattle.registry_slots.specs.Slots.{slot_at}
use Rattle.registry_slots.specs.Orders.{place_in, stands_to}
use Rattle.registry_slots.proofs.orders.find_slot.Given as goal

-- the pair belongs between the two, and is not at the second
abbrev pub invariant-loop-low : goal.invariant-loop-low
invariant-loop-low l = record {
  from : l.low ≤ place_in by.Place l.slots.slots l.order.items ([], (l.url, l.language));
  upto : place_in by.Place l.slots.slots l.order.items ([], (l.url, l.language)) ≤ l.high;
  within : l.high ≤ length l.order.items;
  above : (l.high ≡ length l.order.items) ⊎ (stands_to (l.url, l.language) (slot_at l.slots.slots (get_or l.order.items l.high 0)) ≡ Greater);
}

abbrev pub decreases-loop-low : goal.decreases-loop-low
decreases-loop-low l = l.high - l.low
