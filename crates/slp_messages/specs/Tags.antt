-- Language tags that are readable (RFC 2608, section 8).
use Rattle.std.specs.Prelude.{ℕ, Bool, ◌≤◌, ◌&&◌, nat_le, List, length, IsTrue}
use Rattle.std.specs.List.{list_all}
use Rattle.slp_text.specs.Ascii.{exclamation_mark, tilde}

-- a printable character of ASCII
abbrev pub is_tag_byte : ℕ → Bool
is_tag_byte b = nat_le exclamation_mark b && nat_le b tilde

-- a language tag that is readable
pub record IsTag (tag : List ℕ) : Type 0 where
  pub short : length tag ≤ 64
  pub printable : IsTrue (list_all is_tag_byte tag)
