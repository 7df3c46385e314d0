-- Escapes of any byte are bytes.
use Rattle.std.proofs.Common.{◌≡◌, ℕ, ◌<◌, ◌+◌, ◌*◌, true, false, cond, List, [], ◌∷◌, Some, None, Result, Ok, Err, refl, subst, arith}
use Rattle.std.specs.Prelude.{◌==◌}
use Rattle.std.specs.List.{AllByRecursion}
use Rattle.std.specs.Option.{option_map_or}
use Rattle.std.proofs.lemmas.Bool.Decides.{nat_tests}
use Rattle.slp_text.specs.Ascii.{backslash}
use Rattle.slp_text.specs.Escapes.{digit_of, unescaped_text_from}
use Rattle.slp_text.specs.Reading.{read_map}
use Rattle.slp_text.specs.declared.escapes.Stage.{Stage}
use Rattle.slp_text.specs.declared.escapes.Stage.TheVariants.{Plain, Slash, Digit}
use Rattle.slp_text.specs.declared.faults.TextFault.{TextFault}
use Rattle.slp_text.specs.declared.faults.TextFault.TheVariants.{BadEscape, Reserved}
use Rattle.attr_values.specs.Values.{opaque_bytes}

abbrev AreBytes : Result (List ℕ) TextFault → Type 0
AreBytes (Ok bs) = AllByRecursion (λ b. b < 256) bs
AreBytes (Err e) = Unit {0}

one_more : (b : ℕ) (r : Result (List ℕ) TextFault) → b < 256 → AreBytes r → AreBytes (read_map (λ bs. b ∷ bs) r)
one_more b (Ok bs) h rest = (h, rest)
one_more b (Err e) h rest = tt

digit-small : (c d : ℕ) → digit_of c ≡ Some d → d < 16
digit-small c d h = grind (arith, nat_tests)

abbrev escapes : Stage → List ℕ → Result (List ℕ) TextFault
escapes = unescaped_text_from (λ b. true) (λ c. true)

mutual
  plain_bytes : (cs : List ℕ) → AreBytes (escapes Plain cs)
  plain_bytes [] = tt
  plain_bytes (c ∷ cs) =
      elim (c == backslash) as (λ b. AreBytes (cond b (escapes Slash cs) (Err Reserved))) [
        | true ↦ slash_bytes cs
        | false ↦ tt
      ]

  slash_bytes : (cs : List ℕ) → AreBytes (escapes Slash cs)
  slash_bytes [] = tt
  slash_bytes (c ∷ cs) =
      elim (digit_of c) as (λ o. digit_of c ≡ o → AreBytes (option_map_or (λ d. escapes (Digit d) cs) o (Err BadEscape))) [
        | None ↦ λ e. tt
        | Some d ↦ λ e. digit_bytes d cs (digit-small c d e)
      ] refl

  digit_bytes : (d : ℕ) (cs : List ℕ) → d < 16 → AreBytes (escapes (Digit d) cs)
  digit_bytes d [] h = tt
  digit_bytes d (c ∷ cs) h =
      elim (digit_of c) as (λ o. digit_of c ≡ o → AreBytes (option_map_or (λ e. read_map (λ xs. (16 * d + e) ∷ xs) (escapes Plain cs)) o (Err BadEscape))) [
        | None ↦ λ i. tt
        | Some e ↦ λ i. let small = digit-small c e i in one_more (16 * d + e) (escapes Plain cs) (omega (arith, h, small)) (plain_bytes cs)
      ] refl

pub are_bytes : (cs bytes : List ℕ) → opaque_bytes cs ≡ Ok bytes → AllByRecursion (λ b. b < 256) bytes
are_bytes cs bytes h = subst AreBytes h (plain_bytes cs)
