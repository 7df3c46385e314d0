use Rattle.std.proofs.Common.{◌≡◌, map, take}
use Rattle.slp_tags.proofs.tags.copied.Given as goal

-- the parts so far
abbrev pub invariant-loop-part : goal.invariant-loop-part
invariant-loop-part l = map (λ p. p.items) l.made.items ≡ map (λ p. p.items) (take l.part-index l.parts)
