-- Texts of others as they are shown.
use Rattle.std.specs.Prelude.{ℕ, ◌/◌, ◌%◌, nat_lt, ◌==◌, ◌||◌, List, [], ◌∷◌, flat_map, if◌then◌else◌}
use Rattle.slp_text.specs.Ascii.{backslash}
use Rattle.slp_text.specs.Escapes.{capital_digit}

-- a control character is shown as its escape, so that each line stays one
abbrev pub shown_byte : ℕ → List ℕ
shown_byte b = if nat_lt b 32 || b == 127 then backslash ∷ capital_digit (b / 16) ∷ capital_digit (b % 16) ∷ [] else b ∷ []

abbrev pub shown : List ℕ → List ℕ
shown = flat_map shown_byte
