use Rattle.std.proofs.Common.{◌≡◌, map, filter, drop}
use Rattle.std.specs.Arc.{arc_value}
use Rattle.registry_core.specs.Entries.{is_of_url}
use Rattle.registry_core.proofs.list.ListRegistryRegistry.share_by_url.Given as goal

-- what was passed is of another URL
abbrev pub invariant-loop-at : goal.invariant-loop-at
invariant-loop-at l =
    filter (is_of_url l.url) (drop l.at (map arc_value l.self-inside.entries.items))
    ≡ filter (is_of_url l.url) (drop l.from (map arc_value l.self-inside.entries.items))
