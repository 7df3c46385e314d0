-- Words on texts, which are lists of bytes.
use Rattle.std.specs.Prelude.{ℕ, Bool, ◌==◌, ◌||◌, List, [], ◌∷◌, ◌≡◌, ◌≢◌}
use Rattle.std.specs.List.{AllByRecursion, list_all}
use Rattle.std.specs.Cmp.Lexicographic.{slice_cmp, pointwise}
use Rattle.std.specs.Ordering.{nat_cmp}
use Rattle.std.specs.declared.cmp.Ordering.{Ordering}
use Rattle.std.specs.declared.cmp.Ordering.TheVariants.{Less}
use Rattle.slp_text.specs.Ascii.{is_digit, is_letter}
use Rattle.slp_text.specs.Keys.{is_white}

-- no byte of this value
abbrev pub Lacks : ℕ → List ℕ → Type 0
Lacks b l = AllByRecursion (λ x. x ≢ b) l

-- a letter or a digit of ASCII
abbrev pub is_plain : ℕ → Bool
is_plain b = is_digit b || is_letter b

-- the same bytes
abbrev pub bytes_eq : List ℕ → List ℕ → Bool
bytes_eq = pointwise ◌==◌

-- the same texts, in the same order
abbrev pub texts_eq : List (List ℕ) → List (List ℕ) → Bool
texts_eq = pointwise bytes_eq

-- the order of bytes, from the left
abbrev pub bytes_cmp : List ℕ → List ℕ → Ordering
bytes_cmp = slice_cmp nat_cmp

-- each text stands before all that follow it
abbrev pub IsAscending : List (List ℕ) → Type 0
IsAscending [] = Unit {0}
IsAscending (k ∷ ks) = AllByRecursion (λ j. bytes_cmp k j ≡ Less) ks × IsAscending ks

-- nothing but white space
abbrev pub is_blank : List ℕ → Bool
is_blank text = list_all is_white text
