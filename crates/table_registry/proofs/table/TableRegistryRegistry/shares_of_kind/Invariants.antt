use Rattle.std.proofs.Common.{◌≡◌, ◌≤◌, ◌++◌, map, Some}
use Rattle.std.specs.Arc.{arc_value}
use Rattle.registry_core.specs.Entries.{is_kind}
use Rattle.table_registry.specs.Tables.{by_for, walked}
use Rattle.table_registry.proofs.table.TableRegistryRegistry.shares_of_kind.Given as goal

-- with what the walk still gives, the list makes all
abbrev pub invariant-loop-at : goal.invariant-loop-at
invariant-loop-at l = record {
  onward : l.start ≤ l.at;
  all : map arc_value l.shares.items ++ walked (by_for (Some l.kind)) l.self (is_kind (Some l.kind)) l.at ≡ walked (by_for (Some l.kind)) l.self (is_kind (Some l.kind)) 0;
}
