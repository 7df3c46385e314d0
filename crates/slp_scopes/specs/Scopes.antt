-- Scope lists (RFC 2608, section 6.4.1).
use Rattle.std.specs.Prelude.{◌≡◌, ℕ, Bool, true, ◌==◌, ◌||◌, List, map, filter, chars, encode_utf8_all, IsUtf8, Result}
use Rattle.std.specs.List.{AllByRecursion, list_all, slice_split}
use Rattle.slp_text.specs.Ascii.{dot, hyphen, underscore}
use Rattle.slp_text.specs.Escapes.{unescaped_text_at, escaped_text}
use Rattle.slp_text.specs.Keys.{key_of, folded_text}
use Rattle.slp_text.specs.Reading.{read_map, read_all}
use Rattle.slp_text.specs.Sets.{set_of}
use Rattle.slp_text.specs.Words.{is_plain, IsAscending}
use Rattle.slp_text.specs.declared.escapes.Place.TheVariants.{Scope}
use Rattle.slp_text.specs.declared.faults.TextFault.{TextFault}
use Rattle.slp_text.specs.Lists.{is_comma, is_some_text, comma_list}

-- The scopes that a text names: its parts between commas, unescaped and made keys, without the empty ones, as a set.
unfoldable pub scopes_of : List ℕ → Result (List (List ℕ)) TextFault
scopes_of text = read_map (λ parts. set_of (filter is_some_text (map folded_text parts)))
    (read_all (unescaped_text_at Scope) (slice_split is_comma (chars text)))

-- a letter or a digit of ASCII, `-`, `.` or `_`, which are written in lists of scopes as they are
abbrev pub is_plain_byte : ℕ → Bool
is_plain_byte b = is_plain b || b == hyphen || b == dot || b == underscore

abbrev pub is_plain_text : List ℕ → Bool
is_plain_text = list_all is_plain_byte

-- commas, and what is plain
abbrev pub is_plain_list : List ℕ → Bool
is_plain_list = list_all (λ b. is_comma b || is_plain_byte b)

-- a scope is a text that is not empty and its own key
pub record IsScope (k : List ℕ) : Type 0 where
  pub is_text : IsUtf8 k
  pub is_some : is_some_text k ≡ true
  pub is_own_key : key_of k ≡ k

-- scopes in key order, each once
pub record AreScopes (ks : List (List ℕ)) : Type 0 where
  pub each : AllByRecursion IsScope ks
  pub ascending : IsAscending ks

-- scopes as they are written
abbrev pub printed_scopes : List (List ℕ) → List ℕ
printed_scopes ks = comma_list (map (λ k. encode_utf8_all (escaped_text Scope (chars k))) ks)
