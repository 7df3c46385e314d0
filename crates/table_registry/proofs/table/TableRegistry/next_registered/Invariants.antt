use Rattle.std.proofs.Common.{◌-◌, ◌≤◌, length}
use Rattle.registry_core.specs.Entries.{is_registered}
use Rattle.table_registry.specs.Tables.{NoneIn}
use Rattle.table_registry.proofs.table.TableRegistry.next_registered.Given as goal

-- none of those that were passed is of the URL in these scopes
abbrev pub invariant-loop-place : goal.invariant-loop-place
invariant-loop-place l = record {
  onward : l.from ≤ l.at;
  passed : NoneIn (is_registered l.url l.scopes) l.self.slots l.self.places l.from l.at;
}

abbrev pub decreases-loop-place : goal.decreases-loop-place
decreases-loop-place l = length l.self.places - l.at
