use Rattle.std.proofs.Common.{◌≡◌, take}
use Rattle.slp_text.specs.Sets.{common_keys}
use Rattle.slp_scopes.proofs.scopes.shared.Given as goal

-- what both have of the keys so far
abbrev pub invariant-loop-k : goal.invariant-loop-k
invariant-loop-k l = l.found.items ≡ common_keys (take l.k-index l.keys) l.other
