-- Patterns while they are built of their pieces.
use Rattle.std.specs.Prelude.{ℕ, Bool, true, false, List, [], ◌∷◌, None}
use Rattle.slp_tags.specs.Tags.{Sign, signs_of}

-- the signs of pieces that are still to come, where begun says that one came
abbrev pub more_signs : Bool → List (List ℕ) → List Sign
more_signs false pieces = signs_of pieces
more_signs true [] = []
more_signs true (p ∷ ps) = None ∷ signs_of (p ∷ ps)
