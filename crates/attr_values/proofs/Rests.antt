-- A character with which a text begins is taken off.
use Rattle.std.proofs.Common.{◌≡◌, ℕ, Bool, true, false, List, [], ◌∷◌, ◌++◌, Option, Some, None, refl, sym, ap, ◌∙◌, chars, encode_utf8, encode_utf8_all, eqb-true, arith}
use Rattle.std.specs.Prelude.{IsUtf8, MatchOption, ◌==◌}
use Rattle.std.specs.Char.{IsScalar, char_set_contains}
use Rattle.std.specs.Str.Pattern.{FindsCharPrefix, FindsPrefixBy, StripsPrefix}
use Rattle.std.proofs.lemmas.Bool.Decides.{nat_tests}
use Rattle.std.proofs.lemmas.Str.{chars_past_char, encodes-chars}
use denote.Ref.{Bor}
use Rattle.slp_text.specs.Ascii.{backslash, lower_f, upper_f}
use Rattle.attr_values.specs.Rests.{rest_after, rest_of}
use Rattle.attr_values.specs.Values.{is_f}

taken : (test : ℕ → Bool) (s x : List ℕ) (c : ℕ) → IsUtf8 s → s ≡ encode_utf8 c ++ x → test c ≡ true → Some (chars x) ≡ rest_after test (chars s)
taken test s x c u e h = rw (chars_past_char s x c u e, h) refl

not_taken : (test : ℕ → Bool) (cs s : List ℕ) → encode_utf8_all cs ≡ s → ((c : ℕ) (rest : List ℕ) → s ≡ encode_utf8 c ++ rest → test c ≡ false) → None ≡ rest_after test cs
not_taken test [] s e f = refl
not_taken test (c ∷ cs) s e f = rw (f c (encode_utf8_all cs) (sym e)) refl

is_slash : (s rest : List ℕ) (c : ℕ) → ((x : List ℕ) → s ≡ encode_utf8 backslash ++ x → ⊥) → s ≡ encode_utf8 c ++ rest → (c == backslash) ≡ false
is_slash s rest c f e =
    elim (c == backslash) as (λ b. (c == backslash) ≡ b → b ≡ false) [
      | true ↦ λ t. absurd (f rest (e ∙ ap (λ d. encode_utf8 d ++ rest) (eqb-true c backslash t)))
      | false ↦ λ n. refl
    ] refl

pub after_slash : (s : List ℕ) (r : Option (Bor (List ℕ))) → IsUtf8 s → MatchOption r (FindsCharPrefix backslash s None) (λ x. StripsPrefix (FindsCharPrefix backslash) s x.now) → rest_of r ≡ rest_after (λ c. c == backslash) (chars s)
after_slash s None u h = not_taken (λ c. c == backslash) (chars s) s (encodes-chars s u) (λ c rest e. is_slash s rest c h e)
after_slash s (Some x) u h = taken (λ c. c == backslash) s x.now backslash u (h.1.split ∙ ap (λ t. encode_utf8 backslash ++ t) (sym h.2)) refl

pub f_set : (c : ℕ) → char_set_contains (upper_f ∷ lower_f ∷ []) c ≡ is_f c
f_set c = grind (arith, nat_tests)

f-scalar : (c : ℕ) → is_f c ≡ true → IsScalar c
f-scalar c h = grind (arith, nat_tests)

no_f : (s rest : List ℕ) (c : ℕ) → ((d : ℕ) (x : List ℕ) → IsScalar d → s ≡ encode_utf8 d ++ x → is_f d ≡ false) → s ≡ encode_utf8 c ++ rest → is_f c ≡ false
no_f s rest c f e =
    elim (is_f c) as (λ b. is_f c ≡ b → b ≡ false) [
      | true ↦ λ t. let no = f c rest (f-scalar c t) e in cc
      | false ↦ λ n. refl
    ] refl

-- what the pattern answers
abbrev pub FindsF : List ℕ → Option ℕ → Type 0
FindsF s o = (k : ℕ → Bool) → ((c : ℕ) → char_set_contains (upper_f ∷ lower_f ∷ []) c ≡ k c) → FindsPrefixBy k s o

pub after_digit : (s : List ℕ) (r : Option (Bor (List ℕ))) → IsUtf8 s → MatchOption r (FindsF s None) (λ x. StripsPrefix FindsF s x.now) → rest_of r ≡ rest_after is_f (chars s)
after_digit s None u h = not_taken is_f (chars s) s (encodes-chars s u) (λ c rest e. no_f s rest c (h is_f f_set) e)
after_digit s (Some x) u h =
    let found = h.1 is_f f_set in
    taken is_f s x.now found.0 u (found.2.split ∙ ap (λ t. encode_utf8 found.0 ++ t) (sym h.2)) found.1
