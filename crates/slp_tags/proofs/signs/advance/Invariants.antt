use Rattle.std.proofs.Common.{◌≡◌, ◌≤◌, ℕ, List, true}
use Rattle.slp_tags.specs.Searches.{has_front, IsLongestEnd}
use Rattle.slp_tags.specs.SignCodes.{signs_in}
use Rattle.slp_tags.proofs.Searches.{Falls}
use Rattle.slp_tags.proofs.signs.advance.Given as goal

-- a text still ends with that many signs, and with more only where the character does not fit
abbrev pub invariant-loop-came : goal.invariant-loop-came
invariant-loop-came l = (l.came ≤ l.fn.came) × (has_front l.came (signs_in l.codes) ≡ true) × ((text : List ℕ) → IsLongestEnd (signs_in l.codes) l.fn.came text → Falls (signs_in l.codes) l.came l.c text)

abbrev pub decreases-loop-came : goal.decreases-loop-came
decreases-loop-came l = l.came
