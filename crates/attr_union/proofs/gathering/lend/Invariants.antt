use Rattle.std.proofs.Common.{◌≡◌, ◌++◌, take}
use Rattle.attr_union.proofs.gathering.lend.Given as goal

-- those so far
abbrev pub invariant-loop-value : goal.invariant-loop-value
invariant-loop-value l = l.all.items ≡ l.initial.all.items ++ take l.value-index l.values
