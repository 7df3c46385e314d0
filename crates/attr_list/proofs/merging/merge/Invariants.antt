use Rattle.std.proofs.Common.{◌≡◌, ◌+◌, ◌++◌, length}
use Rattle.attr_list.specs.Merging.{merged}
use Rattle.attr_list.proofs.merging.merge.Given as goal

-- those so far, and what is left merged
abbrev pub invariant-loop-first : goal.invariant-loop-first
invariant-loop-first l = l.entries.items ++ merged l.standing_rest l.coming_rest ≡ merged l.standing l.coming

abbrev pub decreases-loop-first : goal.decreases-loop-first
decreases-loop-first l = length l.standing_rest + length l.coming_rest
