-- Patterns: texts in which `*` stands for any run of characters (RFC 2254).
use Rattle.std.specs.Prelude.{ℕ, Bool, List, ◌++◌, map, Some}
use Rattle.caseless.specs.Caseless.{default_case_fold}
use Rattle.slp_text.specs.Ascii.{space}
use Rattle.slp_text.specs.Keys.{squeezed_by}
use Rattle.slp_tags.specs.Parts.{signs_left}
use Rattle.slp_tags.specs.Tags.{Sign, is_match, is_white_sign, signs_of}
use Rattle.text_patterns.specs.Characters.{key_characters}

-- The pattern of the pieces between its `*`s, folded and squeezed as a whole: white space goes at its two ends alone.
abbrev pub pattern_of : List (List ℕ) → List Sign
pattern_of pieces = squeezed_by is_white_sign (Some space) (signs_of (map default_case_fold pieces))

-- the pattern matches the key of a text
abbrev pub matches_key : List Sign → List ℕ → Bool
matches_key pattern text = is_match pattern (key_characters text)

-- signs of a pattern that are there, and what folded signs still give, where gap says that white space came since
abbrev pub pattern_with : Bool → List Sign → List Sign → List Sign
pattern_with gap signs more = signs ++ signs_left gap signs more
