use Rattle.std.proofs.Common.{◌≡◌, List, ◌++◌, Some, map, drop}
use Rattle.slp_tags.specs.Parts.{part_with}
use Rattle.slp_tags.specs.Tags.{Sign}
use Rattle.slp_tags.proofs.tags.add_folded.Given as goal

-- what is there and what is still to come of the folding are the whole, whatever follows
abbrev pub invariant-loop-c : goal.invariant-loop-c
invariant-loop-c l = (rest : List Sign) → part_with l.gap l.part.items (map Some (drop l.c-index l.folding) ++ rest) ≡ part_with l.fn.gap l.fn.part.items (map Some l.folding ++ rest)
