use Rattle.std.proofs.Common.{◌≡◌, ℕ, List, length}
use Rattle.access_rules.specs.Deciding.{deed_in, some_hides}
use Rattle.access_rules.proofs.hide.fitting.Given as goal

-- no table that was passed fits
abbrev pub invariant-loop-first : goal.invariant-loop-first
invariant-loop-first l = (tag : List ℕ) → some_hides l.tables (deed_in l.deed) l.scope tag ≡ some_hides l.hides (deed_in l.deed) l.scope tag

abbrev pub decreases-loop-first : goal.decreases-loop-first
decreases-loop-first l = length l.tables
