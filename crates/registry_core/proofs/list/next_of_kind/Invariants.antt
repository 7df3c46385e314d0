use Rattle.std.proofs.Common.{◌≡◌, Some}
use Rattle.registry_core.specs.Lists.{kinds_from}
use Rattle.registry_core.proofs.list.next_of_kind.Given as goal

-- what was passed is of another type
abbrev pub invariant-loop-at : goal.invariant-loop-at
invariant-loop-at l = kinds_from (Some l.kind) l.entries l.at ≡ kinds_from (Some l.kind) l.entries l.from
