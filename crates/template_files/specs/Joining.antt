-- How lines are joined, one after the other.
use Rattle.std.specs.Prelude.{ℕ, Bool, List, [], ◌∷◌, ◌++◌, if◌then◌else◌}
use Rattle.slp_text.specs.Ascii.{space}
use Rattle.template_files.specs.Reading.{joined}

-- a text with one line more, after a SPACE where others have begun
abbrev pub joined_with : Bool → List ℕ → List ℕ → List ℕ
joined_with begun text l = if begun then text ++ space ∷ l else text ++ l

-- a text and what is still joined to it
abbrev pub joined_from : Bool → List ℕ → List (List ℕ) → List ℕ
joined_from begun text [] = text
joined_from begun text (l ∷ ls) = joined_with begun text (joined (l ∷ ls))
