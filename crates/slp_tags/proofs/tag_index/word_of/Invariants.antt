use Rattle.std.proofs.Common.{◌≡◌, Some, map, take}
use Rattle.slp_tags.proofs.tag_index.word_of.Given as goal

-- the bytes so far
abbrev pub invariant-loop-sign : goal.invariant-loop-sign
invariant-loop-sign l = take l.sign-index l.part ≡ map Some l.word.items
