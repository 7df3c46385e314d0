use Rattle.std.proofs.Common.{map, take}
use Rattle.slp_tags.specs.TagIndexes.{IsIndex}
use Rattle.slp_tags.proofs.tag_index.TagIndex.of.Given as goal

-- the index of the parts so far
abbrev pub invariant-loop-part : goal.invariant-loop-part
invariant-loop-part l = IsIndex l.index (map (λ p. p.items) (take l.part-index l.parts))
