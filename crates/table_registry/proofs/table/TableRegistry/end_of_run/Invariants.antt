use Rattle.std.proofs.Common.{◌≡◌, ℕ, true, ◌-◌, ◌<◌, ◌≤◌, length, get_or, Some}
use Rattle.registry_core.specs.declared.entry.Entry.{Entry}
use Rattle.registry_core.specs.Entries.{are_alike}
use Rattle.registry_slots.specs.Slots.{slot_at}
use Rattle.table_registry.proofs.table.TableRegistry.end_of_run.Given as goal

-- all that were passed are alike
abbrev pub invariant-loop-at : goal.invariant-loop-at
invariant-loop-at l = record {
  onward : l.from ≤ l.at;
  within : l.at ≤ length l.order.items;
  passed : (j : ℕ) (f : Entry) → l.from ≤ j → j < l.at → slot_at l.self.slots (get_or l.order.items j 0) ≡ Some f → are_alike l.entry f ≡ true;
}

abbrev pub decreases-loop-at : goal.decreases-loop-at
decreases-loop-at l = length l.order.items - l.at
