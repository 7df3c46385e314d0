-- Texts that are squeezed one character at a time.
use Rattle.std.specs.Prelude.{ℕ, Bool, true, false, List, ◌++◌, encode_utf8_all}
use Rattle.slp_text.specs.Keys.{squeezed_rest, squeezed_text}

-- what these characters still give, where begun says that one came that is not white, and gap that white space came since
abbrev pub squeezed_left : Bool → Bool → List ℕ → List ℕ
squeezed_left false gap cs = squeezed_text cs
squeezed_left true gap cs = squeezed_rest gap cs

-- the text that is there, and what these characters still give
abbrev pub squeezed_with : Bool → Bool → List ℕ → List ℕ → List ℕ
squeezed_with begun gap text cs = text ++ encode_utf8_all (squeezed_left begun gap cs)
