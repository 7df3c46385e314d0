-- The scopes that a text names, before they are a set, and one of them as it is written.
use Rattle.std.specs.Prelude.{ℕ, Bool, List, ◌∷◌, map, filter, chars, encode_utf8_all, Result, if◌then◌else◌}
use Rattle.std.specs.List.{slice_split}
use Rattle.slp_text.specs.Ascii.{comma}
use Rattle.slp_text.specs.Escapes.{unescaped_text_at, escaped_text}
use Rattle.slp_text.specs.Reading.{read_map, read_all}
use Rattle.slp_text.specs.Keys.{folded_text}
use Rattle.slp_text.specs.Lists.{is_comma, is_some_text}
use Rattle.slp_text.specs.declared.escapes.Place.TheVariants.{Scope}
use Rattle.slp_text.specs.declared.faults.TextFault.{TextFault}

-- keys that are not empty, in the order of their parts
abbrev pub keys_of : List (List ℕ) → List (List ℕ)
keys_of parts = filter is_some_text (map folded_text parts)

unfoldable pub scope_names_of : List ℕ → Result (List (List ℕ)) TextFault
scope_names_of text = read_map keys_of (read_all (unescaped_text_at Scope) (slice_split is_comma (chars text)))

-- a scope as it is written, after a comma where others have begun
abbrev pub written_scope : Bool → List ℕ → List ℕ
written_scope begun k = if begun then comma ∷ encode_utf8_all (escaped_text Scope (chars k)) else encode_utf8_all (escaped_text Scope (chars k))
