-- What is written as escapes is read again.
use Rattle.std.proofs.Common.{◌≡◌, ℕ, ◌+◌, ◌*◌, ◌<◌, ◌/◌, ◌%◌, Bool, true, false, ◌==◌, List, [], ◌∷◌, ◌++◌, Some, Result, Ok, refl, sym, ap, ◌∙◌, arith, eqb-true, ap₂}
use Rattle.std.specs.Prelude.{if◌then◌else◌, ◌&&◌}
use Rattle.std.proofs.lemmas.Bool.Decides.{nat_tests}
use Rattle.std.proofs.lemmas.Bool.{and_parts}
use Rattle.slp_text.specs.Ascii.{backslash}
use Rattle.slp_text.specs.Escapes.{is_reserved, is_refused, is_escapable, digit_of, capital_digit, unescaped_text_from, written_character, escaped_text}
use Rattle.slp_text.specs.Reading.{read_map}
use Rattle.slp_text.specs.declared.escapes.Place.{Place}
use Rattle.slp_text.specs.declared.escapes.Place.TheVariants.{Value, Tag, Scope}
use Rattle.slp_text.specs.declared.escapes.Stage.TheVariants.{Plain}
use Rattle.slp_text.specs.declared.faults.TextFault.{TextFault}
use lib.Utf8.{scalar, scalars}

pub escapable_small : (c : ℕ) → is_escapable c ≡ true → c < 128
escapable_small c h = grind (arith, nat_tests)

value_escapable : (c : ℕ) → is_reserved Value c ≡ true → is_escapable c ≡ true
value_escapable c h = grind (arith, nat_tests)

tag_escapable : (c : ℕ) → is_reserved Tag c ≡ true → is_escapable c ≡ true
tag_escapable c h = grind (arith, nat_tests)

scope_escapable : (c : ℕ) → is_reserved Scope c ≡ true → is_escapable c ≡ true
scope_escapable c h = grind (arith, nat_tests)

pub reserved_escapable : (place : Place) (c : ℕ) → is_reserved place c ≡ true → is_escapable c ≡ true
reserved_escapable Value c h = value_escapable c h
reserved_escapable Tag c h = tag_escapable c h
reserved_escapable Scope c h = scope_escapable c h

slash_reserved : (place : Place) → is_reserved place backslash ≡ true
slash_reserved Value = refl
slash_reserved Tag = refl
slash_reserved Scope = refl

no_slash : (place : Place) (c : ℕ) → is_reserved place c ≡ false → (c == backslash) ≡ false
no_slash place c h =
    elim (c == backslash) as (λ b. (c == backslash) ≡ b → b ≡ false) [
      | true ↦ λ t. sym (slash_reserved place) ∙ ap (is_reserved place) (sym (eqb-true c backslash t)) ∙ h
      | false ↦ λ f. refl
    ] refl

pub digit-capital : (d : ℕ) → d < 16 → digit_of (capital_digit d) ≡ Some d
digit-capital d h = grind (arith, nat_tests)

one_escape : (refused : ℕ → Bool) (c : ℕ) (rest : List ℕ) (d e : ℕ) (r : Result (List ℕ) TextFault) → digit_of d ≡ Some (c / 16) → digit_of e ≡ Some (c % 16) → is_escapable c ≡ true → unescaped_text_from is_escapable refused Plain rest ≡ r
    → unescaped_text_from is_escapable refused Plain (backslash ∷ d ∷ e ∷ rest) ≡ read_map (λ xs. c ∷ xs) r
one_escape refused c rest d e r first second allowed is =
    let whole : 16 * (c / 16) + c % 16 ≡ c = omega arith in
    rw (first, second, whole, allowed) (ap (read_map (λ xs. c ∷ xs)) is)

module _ (place : Place) (refused : ℕ → Bool) (free : (c : ℕ) → is_reserved place c ≡ false → refused c ≡ false) where
  one_more : (c : ℕ) (rest cs : List ℕ) → unescaped_text_from is_escapable refused Plain rest ≡ Ok cs → unescaped_text_from is_escapable refused Plain (written_character place c ++ rest) ≡ Ok (c ∷ cs)
  one_more c rest cs is =
      elim (is_reserved place c) as (λ b. is_reserved place c ≡ b → unescaped_text_from is_escapable refused Plain ((if b then backslash ∷ capital_digit (c / 16) ∷ capital_digit (c % 16) ∷ [] else c ∷ []) ++ rest) ≡ Ok (c ∷ cs)) [
        | true ↦ λ t.
            let allowed = reserved_escapable place c t in
            let small = escapable_small c allowed in
            one_escape refused c rest (capital_digit (c / 16)) (capital_digit (c % 16)) (Ok cs) (digit-capital (c / 16) (omega arith)) (digit-capital (c % 16) (omega arith)) allowed is
        | false ↦ λ f. rw (no_slash place c f, free c f) (ap (read_map (λ xs. c ∷ xs)) is)
      ] refl

  pub read_again : (cs : List ℕ) → unescaped_text_from is_escapable refused Plain (escaped_text place cs) ≡ Ok cs
  read_again [] = refl
  read_again (c ∷ cs) = one_more c (escaped_text place cs) cs (read_again cs)

pub refused_free : (place : Place) (c : ℕ) → is_reserved place c ≡ false → is_refused place c ≡ false
refused_free place c h = rw h refl

pub digit-scalar : (d : ℕ) → d < 16 → scalar (capital_digit d) ≡ true
digit-scalar d h = grind (arith, nat_tests)

pub append-scalars : (cs ds : List ℕ) → scalars cs ≡ true → scalars ds ≡ true → scalars (cs ++ ds) ≡ true
append-scalars [] ds p q = q
append-scalars (c ∷ cs) ds p q = let both = and_parts (scalar c) (scalars cs) p in ap₂ (λ a b. a && b) both.0 (append-scalars cs ds both.1 q)
