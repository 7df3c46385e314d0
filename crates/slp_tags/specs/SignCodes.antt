-- Signs as numbers, one of which ends them.
use Rattle.std.specs.Prelude.{◌≡◌, ◌≢◌, ℕ, List, [], ◌∷◌, ◌==◌, Some, None, if◌then◌else◌}
use Rattle.slp_tags.specs.Tags.{Sign}

-- the code of a star, and the code at the end: no character has one of them
abbrev pub star_code : ℕ
star_code = 4294967295

abbrev pub end_code : ℕ
end_code = 4294967294

-- the sign of a code
abbrev pub sign_in : ℕ → Sign
sign_in n = if n == star_code then None else Some n

-- the signs before the end
abbrev pub signs_in : List ℕ → List Sign
signs_in [] = []
signs_in (n ∷ []) = []
signs_in (n ∷ m ∷ codes) = sign_in n ∷ signs_in (m ∷ codes)

-- the last is the end, and no other
abbrev pub AreCodes : List ℕ → Type 0
AreCodes [] = ⊥
AreCodes (n ∷ []) = n ≡ end_code
AreCodes (n ∷ m ∷ codes) = (n ≢ end_code) × AreCodes (m ∷ codes)
