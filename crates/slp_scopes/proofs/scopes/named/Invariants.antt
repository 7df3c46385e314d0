use Rattle.std.proofs.Common.{◌≡◌, ℕ, List, encode_utf8_all}
use Rattle.std.specs.Prelude.{string_bytes}
use Rattle.std.specs.Str.Iter.{chars_rest}
use Rattle.slp_scopes.specs.ScopeNames.{scope_names_of}
use Rattle.slp_text.proofs.Readers.{Follows}
use Rattle.slp_text.specs.declared.escapes.Place.TheVariants.{Scope}
use Rattle.slp_text.proofs.Lists.{characters_at, list_parts}
use Rattle.slp_scopes.proofs.ScopeNames.{made}
use Rattle.slp_scopes.proofs.scopes.named.Given as goal

-- what is there and what is still to come are the scopes
abbrev pub invariant-loop-c : goal.invariant-loop-c
invariant-loop-c l =
    (cs : List ℕ) × (ps : List ℕ) × (encode_utf8_all cs ≡ chars_rest l.c-iterator) × (encode_utf8_all ps ≡ string_bytes l.part)
    × Follows (list_parts (characters_at Scope)) (made l.keys.items ps) l.stage cs (scope_names_of l.fn.text)
