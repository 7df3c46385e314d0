use Rattle.std.proofs.Common.{◌≡◌, map, filter, drop}
use Rattle.std.specs.Prelude.{◌&&◌}
use Rattle.std.specs.Arc.{arc_value}
use Rattle.std.specs.Option.{option_copied}
use Rattle.registry_core.specs.Entries.{is_kind, is_within}
use Rattle.registry_core.proofs.list.ListRegistryRegistry.by_kind_within.Given as goal

-- what was passed comes after the bound, or is of another type
abbrev pub invariant-loop-at : goal.invariant-loop-at
invariant-loop-at l =
    filter (λ e. is_within l.bound e && is_kind (option_copied l.kind) e) (drop l.at (map arc_value l.self-inside.entries.items))
    ≡ filter (λ e. is_within l.bound e && is_kind (option_copied l.kind) e) (drop l.from (map arc_value l.self-inside.entries.items))
