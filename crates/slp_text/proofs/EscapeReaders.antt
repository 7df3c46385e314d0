-- Escapes are read one character or byte at a time.
use Rattle.std.proofs.Common.{◌≡◌, ℕ, ◌+◌, ◌*◌, Bool, true, false, ◌==◌, List, [], ◌∷◌, Option, Some, None, Result, Ok, Err, refl, sym}
use Rattle.std.specs.Prelude.{if◌then◌else◌}
use Rattle.std.specs.Option.{option_map_or}
use Rattle.slp_text.specs.Ascii.{backslash}
use Rattle.slp_text.specs.Escapes.{unescaped_text_from, digit_of}
use Rattle.slp_text.specs.Reading.{read_map}
use Rattle.slp_text.specs.Steps.{escape_with, step_of}
use Rattle.slp_text.specs.declared.escapes.Stage.{Stage}
use Rattle.slp_text.specs.declared.escapes.Stage.TheVariants as stage
use Rattle.slp_text.specs.declared.escapes.Step.TheVariants.{Within, Read}
use Rattle.slp_text.specs.declared.faults.TextFault.{TextFault}
use Rattle.slp_text.specs.declared.faults.TextFault.TheVariants.{BadEscape, Reserved}
use Rattle.slp_text.proofs.Readers.{Event, IsReader, after, event_of, read_map-same}

module _ (allowed refused : ℕ → Bool) where
  abbrev pub unescapes : Stage → List ℕ → Result (List ℕ) TextFault
  unescapes s cs = unescaped_text_from allowed refused s cs

  abbrev pub unescape_event : Stage → ℕ → Event (List ℕ)
  unescape_event s c = event_of (step_of allowed (refused c) s c)

  at_plain : (b r : Bool) (c : ℕ) (cs : List ℕ)
      → (if b then unescapes stage.Slash cs else (if r then Err Reserved else read_map (λ xs. c ∷ xs) (unescapes stage.Plain cs)))
      ≡ after unescapes (event_of (if b then Ok (Within stage.Slash) else (if r then Err Reserved else Ok (Read c)))) cs
  at_plain true r c cs = sym (read_map-same (unescapes stage.Slash cs))
  at_plain false true c cs = refl
  at_plain false false c cs = refl

  at_slash : (o : Option ℕ) (cs : List ℕ)
      → option_map_or (λ d. unescapes (stage.Digit d) cs) o (Err BadEscape) ≡ after unescapes (event_of (option_map_or (λ d. Ok (Within (stage.Digit d))) o (Err BadEscape))) cs
  at_slash None cs = refl
  at_slash (Some d) cs = sym (read_map-same (unescapes (stage.Digit d) cs))

  at_second : (b : Bool) (x : ℕ) (cs : List ℕ)
      → (if b then read_map (λ xs. x ∷ xs) (unescapes stage.Plain cs) else Err BadEscape) ≡ after unescapes (event_of (if b then Ok (Read x) else Err BadEscape)) cs
  at_second true x cs = refl
  at_second false x cs = refl

  at_digit : (d : ℕ) (o : Option ℕ) (cs : List ℕ)
      → option_map_or (λ e. if allowed (16 * d + e) then read_map (λ xs. (16 * d + e) ∷ xs) (unescapes stage.Plain cs) else Err BadEscape) o (Err BadEscape)
      ≡ after unescapes (event_of (option_map_or (escape_with allowed d) o (Err BadEscape))) cs
  at_digit d None cs = refl
  at_digit d (Some e) cs = at_second (allowed (16 * d + e)) (16 * d + e) cs

  pub unescape_reader : IsReader unescapes unescape_event
  unescape_reader stage.Plain c cs = at_plain (c == backslash) (refused c) c cs
  unescape_reader stage.Slash c cs = at_slash (digit_of c) cs
  unescape_reader (stage.Digit d) c cs = at_digit d (digit_of c) cs

  -- an escape that has begun does not end there
  pub begun_escape : (s : Stage) → (s ≡ stage.Plain → ⊥) → unescapes s [] ≡ Err BadEscape
  begun_escape stage.Plain other = absurd (other refl)
  begun_escape stage.Slash other = refl
  begun_escape (stage.Digit d) other = refl
