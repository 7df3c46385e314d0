use Rattle.std.proofs.Common.{◌-◌, ◌≤◌, length}
use Rattle.registry_slots.specs.Orders.{place_in, spot_rank}
use Rattle.registry_slots.proofs.orders.place_of.Given as goal

abbrev pub invariant-loop-low : goal.invariant-loop-low
invariant-loop-low l = record {
  from : l.low ≤ place_in l.by l.slots.slots l.order.items (spot_rank l.spot);
  upto : place_in l.by l.slots.slots l.order.items (spot_rank l.spot) ≤ l.high;
  within : l.high ≤ length l.order.items;
}

abbrev pub decreases-loop-low : goal.decreases-loop-low
decreases-loop-low l = l.high - l.low
