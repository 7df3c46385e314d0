use Rattle.std.proofs.Common.{◌≡◌, ◌++◌, map, filter, drop, Some}
use Rattle.std.specs.Arc.{arc_value}
use Rattle.registry_core.specs.Entries.{is_kind}
use Rattle.registry_core.proofs.list.ListRegistryRegistry.shares_of_kind.Given as goal

-- with those that are still to come, the list makes all
abbrev pub invariant-loop-at : goal.invariant-loop-at
invariant-loop-at l =
    map arc_value l.shares.items ++ filter (is_kind (Some l.kind)) (drop l.at (map arc_value l.self-inside.entries.items))
    ≡ filter (is_kind (Some l.kind)) (map arc_value l.self-inside.entries.items)
