use Rattle.std.proofs.Common.{◌-◌, ◌≤◌, length}
use Rattle.std.specs.Option.{option_copied}
use Rattle.table_registry.specs.Tables.{NoneIn, is_wanted}
use Rattle.table_registry.proofs.table.TableRegistry.next_wanted.Given as goal

-- none of those that were passed is wanted
abbrev pub invariant-loop-at : goal.invariant-loop-at
invariant-loop-at l = record {
  onward : l.from ≤ l.at;
  passed : NoneIn (is_wanted (option_copied l.bound) (option_copied l.kind) (option_copied l.scope)) l.self.slots l.order.items l.from l.at;
}

abbrev pub decreases-loop-at : goal.decreases-loop-at
decreases-loop-at l = length l.order.items - l.at
