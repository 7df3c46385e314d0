use Rattle.std.proofs.Common.{◌≡◌, List, ℕ, length, Ok}
use Rattle.site_opening.specs.Openings.{templates_start_of}
use Rattle.site_opening.proofs.opening.templates_at.Given as goal

-- the templates so far are those of a text for each path so far
abbrev pub invariant-loop-path : goal.invariant-loop-path
invariant-loop-path g l = (texts : List (List ℕ)) × (length texts ≡ l.path-index) × (templates_start_of texts ≡ Ok l.templates)
