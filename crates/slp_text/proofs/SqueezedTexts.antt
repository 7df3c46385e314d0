-- The end of a squeeze.
use Rattle.std.proofs.Common.{◌≡◌, Bool, true, false, ℕ, List, [], sym, ◌∙◌, append-nil}
use Rattle.slp_text.specs.Squeezing.{squeezed_with}

pub squeezed-done : (begun gap : Bool) (text all : List ℕ) → squeezed_with begun gap text [] ≡ all → text ≡ all
squeezed-done false gap text all e = sym (append-nil text) ∙ e
squeezed-done true gap text all e = sym (append-nil text) ∙ e
