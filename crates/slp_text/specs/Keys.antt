-- Keys of texts: white space squeezed, case folded (RFC 2608, section 6.4).
use Rattle.std.specs.Prelude.{ℕ, Bool, true, false, ◌==◌, ◌&&◌, ◌||◌, nat_le, nat_lt, List, [], ◌∷◌, reverse, chars, encode_utf8_all, if◌then◌else◌}
use Rattle.slp_text.specs.Ascii.{carriage_return, delete, line_feed, space, tab, upper_a, upper_z}
use Rattle.caseless.specs.Caseless.{default_case_fold}

-- SPACE, TAB, LF and CR
abbrev pub is_white : ℕ → Bool
is_white c = c == space || c == tab || c == line_feed || c == carriage_return

-- a byte of ASCII that is not white space, and no other control character but DEL
abbrev pub is_word_byte : ℕ → Bool
is_word_byte b = nat_lt space b && nat_le b delete

-- no capital letter of ASCII
abbrev pub is_not_capital : ℕ → Bool
is_not_capital b = nat_lt b upper_a || nat_lt upper_z b

-- what stands from the first on that is not white
abbrev pub trimmed_by : {A : Type 0} → (A → Bool) → List A → List A
trimmed_by white [] = []
trimmed_by white (x ∷ xs) = if white x then trimmed_by white xs else x ∷ xs

-- what comes after something in a squeezed list; gap says that white space came since
abbrev pub squeezed_rest_by : {A : Type 0} → (A → Bool) → A → Bool → List A → List A
squeezed_rest_by white blank gap [] = []
squeezed_rest_by white blank gap (x ∷ xs) =
    if white x then squeezed_rest_by white blank true xs
    else (if gap then blank ∷ x ∷ squeezed_rest_by white blank false xs else x ∷ squeezed_rest_by white blank false xs)

-- nothing white at either end, and one blank for each inner run of it
abbrev pub squeezed_by : {A : Type 0} → (A → Bool) → A → List A → List A
squeezed_by white blank xs = squeezed_rest_by white blank false (trimmed_by white xs)

-- the characters from the first on that is not white space
abbrev pub trim_start : List ℕ → List ℕ
trim_start = trimmed_by is_white

-- the characters with no white space at either end
abbrev pub trimmed_text : List ℕ → List ℕ
trimmed_text cs = reverse (trim_start (reverse (trim_start cs)))

-- what follows a character in a squeezed text; gap says that white space came since
abbrev pub squeezed_rest : Bool → List ℕ → List ℕ
squeezed_rest = squeezed_rest_by is_white space

-- the characters with no white space at either end, and one SPACE for each inner run of it
abbrev pub squeezed_text : List ℕ → List ℕ
squeezed_text = squeezed_by is_white space

-- the key of a text: its characters folded by full default case folding, and squeezed
unfoldable pub key_of : List ℕ → List ℕ
key_of text = encode_utf8_all (squeezed_text (default_case_fold (chars text)))

-- the key of characters
abbrev pub folded_text : List ℕ → List ℕ
folded_text cs = encode_utf8_all (squeezed_text (default_case_fold cs))
