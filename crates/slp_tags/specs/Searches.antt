-- Searches for a pattern in a text that comes one character at a time.
use Rattle.std.specs.Prelude.{◌≡◌, ℕ, zero, suc, ◌<◌, Bool, true, false, ◌==◌, List, [], ◌∷◌, ◌++◌, length, drop, get_or, Some, None, if◌then◌else◌}
use Rattle.std.specs.List.{list_any}
use Rattle.slp_tags.specs.Tags.{Sign, ends_of, is_match}

-- the first n signs, as far as they are characters
abbrev pub front : ℕ → List Sign → List ℕ
front zero p = []
front (suc n) [] = []
front (suc n) (None ∷ ps) = []
front (suc n) (Some c ∷ ps) = c ∷ front n ps

-- the first n signs are there, and none is a star
abbrev pub has_front : ℕ → List Sign → Bool
has_front zero p = true
has_front (suc n) [] = false
has_front (suc n) (None ∷ ps) = false
has_front (suc n) (Some c ∷ ps) = has_front n ps

-- the sign after the first n is a star
abbrev pub star_at : ℕ → List Sign → Bool
star_at n [] = false
star_at zero (None ∷ ps) = true
star_at zero (Some c ∷ ps) = false
star_at (suc n) (s ∷ ps) = star_at n ps

-- the sign after the first n is this character
abbrev pub has_at : ℕ → ℕ → List Sign → Bool
has_at n c [] = false
has_at zero c (None ∷ ps) = false
has_at zero c (Some d ∷ ps) = d == c
has_at (suc n) c (s ∷ ps) = has_at n c ps

-- the text ends with the first n signs
abbrev pub EndsWith : List Sign → ℕ → List ℕ → Type 0
EndsWith p n text = (before : List ℕ) × (text ≡ before ++ front n p) × (has_front n p ≡ true)

-- and with no more of them
abbrev pub IsLongestEnd : List Sign → ℕ → List ℕ → Type 0
IsLongestEnd p n text = EndsWith p n text × ((m : ℕ) → n < m → EndsWith p m text → ⊥)

-- For each front of a piece, how many of its first signs it ends with when its own first is taken off: where a search goes on.
abbrev pub AreFalls : List Sign → List ℕ → Type 0
AreFalls p falls = (n : ℕ) → 0 < n → n < length falls → has_front n p ≡ true → IsLongestEnd p (get_or falls n 0) (drop 1 (front n p))

-- a piece begins after the first n signs: there are none, or the last of them is a star
abbrev pub starts : ℕ → List Sign → Bool
starts zero p = true
starts (suc n) p = star_at n p

-- the same for each piece
abbrev pub ArePieceFalls : List Sign → List ℕ → Type 0
ArePieceFalls p falls = (n : ℕ) → starts n p ≡ true → AreFalls (drop n p) (drop n falls)

-- A search: the signs from the piece on that is searched for, how many of them came last, and whether the piece may stand further on.
pub record Sought : Type 0 where
  pub signs : List Sign
  pub came : ℕ
  pub floats : Bool

-- whether a piece that may stand further on, of which n signs came last, leads to a match with the text that is still to come
abbrev pub floating : List Sign → ℕ → List ℕ → Bool
floating p n text = list_any (is_match p) (ends_of (front n p ++ text))

-- whether a text that is still to come is what it searches for
abbrev pub finds : Sought → List ℕ → Bool
finds s text = if s.floats then floating s.signs s.came text else is_match s.signs (front s.came s.signs ++ text)
