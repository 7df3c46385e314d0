use Rattle.std.proofs.Common.{◌≡◌, ◌≤◌, ℕ, take, filter, length, get_or}
use Rattle.registry_slots.specs.Orders.{is_held}
use Rattle.registry_slots.proofs.orders.keep_held.Given as goal

-- at the front is what is kept of what was passed, and behind it what is still to come
abbrev pub invariant-loop-i : goal.invariant-loop-i
invariant-loop-i l = record {
  few : l.kept ≤ l.i;
  size : length l.order.items ≡ length l.initial.order.items;
  room : l.order.room ≡ l.initial.order.room;
  front : take l.kept l.order.items ≡ filter (is_held l.slots.slots) (take l.i l.initial.order.items);
  later : (j : ℕ) → l.i ≤ j → get_or l.order.items j 0 ≡ get_or l.initial.order.items j 0;
}
