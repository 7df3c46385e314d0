-- What the words of a call name.
use Rattle.std.specs.Prelude.{ℕ, Bool, ◌==◌, List, [], ◌∷◌, Option, Some, None, false, if◌then◌else◌}
use Rattle.slp_text.specs.Ascii.{hyphen}

-- it begins with `-`
abbrev pub is_option : List ℕ → Bool
is_option [] = false
is_option (b ∷ bs) = b == hyphen

-- just one word, which is no option
abbrev pub path_in : List (List ℕ) → Option (List ℕ)
path_in [] = None
path_in (w ∷ []) = if is_option w then None else Some w
path_in (w ∷ x ∷ ws) = None
