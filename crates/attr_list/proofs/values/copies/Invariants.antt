use Rattle.std.proofs.Common.{◌≡◌}
use Rattle.std.specs.Prelude.{take}
use Rattle.attr_list.proofs.values.copies.Given as goal

-- what was copied so far
abbrev pub invariant-loop-value : goal.invariant-loop-value
invariant-loop-value l = l.copied.items ≡ take l.value-index l.fn.values
