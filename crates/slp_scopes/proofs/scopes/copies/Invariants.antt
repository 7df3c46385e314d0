use Rattle.std.proofs.Common.{◌≡◌, take}
use Rattle.slp_scopes.proofs.scopes.copies.Given as goal

-- the keys so far
abbrev pub invariant-loop-k : goal.invariant-loop-k
invariant-loop-k l = l.copied.items ≡ take l.k-index l.keys
