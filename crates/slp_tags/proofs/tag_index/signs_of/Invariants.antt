use Rattle.std.proofs.Common.{◌≡◌, take}
use Rattle.slp_tags.proofs.tag_index.signs_of.Given as goal

-- the signs so far
abbrev pub invariant-loop-sign : goal.invariant-loop-sign
invariant-loop-sign l = l.signs.items ≡ take l.sign-index l.part
