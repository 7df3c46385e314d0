use Rattle.std.proofs.Common.{◌≡◌, ◌++◌, Some, map, take}
use Rattle.slp_tags.proofs.tags.push_character.Given as goal

-- the bytes so far
abbrev pub invariant-loop-b : goal.invariant-loop-b
invariant-loop-b l = l.part.items ≡ l.initial.part.items ++ map Some (take l.b-index l.b-items)
