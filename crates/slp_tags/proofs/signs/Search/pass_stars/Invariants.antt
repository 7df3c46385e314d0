use Rattle.std.proofs.Common.{◌≡◌, ℕ, List, length}
use Rattle.slp_tags.specs.Searches.{finds}
use Rattle.slp_tags.proofs.signs.Search.pass_stars.Given as goal

-- what it searches for stays the same
abbrev pub invariant-loop-self : goal.invariant-loop-self
invariant-loop-self l = (text : List ℕ) → finds l.self text ≡ finds l.initial.self text

abbrev pub decreases-loop-self : goal.decreases-loop-self
decreases-loop-self l = length l.self.signs
