-- What of a scope list is still to be printed.
use Rattle.std.proofs.Common.{◌≡◌, ◌<◌, ◌+◌, ℕ, Bool, true, false, List, [], ◌∷◌, ◌++◌, length, get_or, drop, sym, ap, ◌∙◌, append_assoc, append-nil, chars, encode_utf8_all, add-one, drop-cons}
use Rattle.slp_text.specs.Ascii.{comma}
use Rattle.slp_text.specs.Escapes.{escaped_text}
use Rattle.slp_scopes.specs.ScopeNames.{written_scope}
use Rattle.slp_scopes.specs.Scopes.{printed_scopes}
use Rattle.slp_text.specs.declared.escapes.Place.TheVariants.{Scope}

-- a scope as it is written
abbrev pub written : List ℕ → List ℕ
written k = encode_utf8_all (escaped_text Scope (chars k))

-- each with a comma before it
abbrev pub with_commas : List (List ℕ) → List ℕ
with_commas [] = []
with_commas (k ∷ ks) = comma ∷ (written k ++ with_commas ks)

abbrev pub printed_from : Bool → List (List ℕ) → List ℕ
printed_from false ks = printed_scopes ks
printed_from true ks = with_commas ks

pub printed_scopes-first : (k : List ℕ) (ks : List (List ℕ)) → printed_scopes (k ∷ ks) ≡ written k ++ with_commas ks
printed_scopes-first k [] = sym (append-nil (written k))
printed_scopes-first k (j ∷ ks) = ap (λ t. written k ++ comma ∷ t) (printed_scopes-first j ks)

-- the key at an index and those after it
pub key_at : (ks : List (List ℕ)) (i : ℕ) (d : List ℕ) → i < length ks → drop i ks ≡ get_or ks i d ∷ drop (i + 1) ks
key_at ks i d h = rw (add-one, drop-cons ks i d)

pub printed_from-more : (begun : Bool) (text : List ℕ) (k : List ℕ) (ks : List (List ℕ)) → (text ++ written_scope begun k) ++ with_commas ks ≡ text ++ printed_from begun (k ∷ ks)
printed_from-more false text k ks = append_assoc text (written k) (with_commas ks) ∙ ap (λ t. text ++ t) (sym (printed_scopes-first k ks))
printed_from-more true text k ks = append_assoc text (comma ∷ written k) (with_commas ks)
