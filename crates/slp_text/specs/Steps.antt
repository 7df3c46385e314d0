-- Reading of escapes, one character or byte at a time.
use Rattle.std.specs.Prelude.{◌≡◌, ℕ, List, [], ◌++◌, ◌+◌, ◌*◌, ◌<◌, Bool, false, ◌==◌, Option, Some, None, Result, Ok, Err, if◌then◌else◌}
use Rattle.std.specs.Option.{option_map_or}
use Rattle.slp_text.specs.Ascii.{backslash}
use Rattle.slp_text.specs.Escapes.{digit_of, is_escapable, is_refused, unescaped_text_from}
use Rattle.slp_text.specs.declared.escapes.Place.{Place}
use Rattle.slp_text.specs.declared.escapes.Stage.{Stage}
use Rattle.slp_text.specs.declared.escapes.Stage.TheVariants as stage
use Rattle.slp_text.specs.declared.escapes.Step.{Step}
use Rattle.slp_text.specs.declared.escapes.Step.TheVariants.{Within, Read}
use Rattle.slp_text.specs.declared.faults.TextFault.{TextFault}
use Rattle.slp_text.specs.declared.faults.TextFault.TheVariants.{BadEscape, Reserved}

-- what an escape of two digits gives, where it may stand for what is allowed
abbrev pub escape_with : (ℕ → Bool) → ℕ → ℕ → Result (Step ℕ) TextFault
escape_with allowed d e = if allowed (16 * d + e) then Ok (Read (16 * d + e)) else Err BadEscape

-- what may not stand raw at a place, if there is one
abbrev pub is_refused_raw : Option Place → ℕ → Bool
is_refused_raw None c = false
is_refused_raw (Some place) c = is_refused place c

-- what one character or byte more gives, which may be refused raw
abbrev pub step_of : (ℕ → Bool) → Bool → Stage → ℕ → Result (Step ℕ) TextFault
step_of allowed refused stage.Plain c = if c == backslash then Ok (Within stage.Slash) else (if refused then Err Reserved else Ok (Read c))
step_of allowed refused stage.Slash c = option_map_or (λ d. Ok (Within (stage.Digit d))) (digit_of c) (Err BadEscape)
step_of allowed refused (stage.Digit d) c = option_map_or (escape_with allowed d) (digit_of c) (Err BadEscape)

-- what the end of a part of a list reads as at a stage
abbrev pub part_end : Place → Stage → Result (List ℕ) TextFault
part_end place s = unescaped_text_from is_escapable (is_refused place) s []

-- a first digit is below 16
abbrev pub IsStage : Stage → Type 0
IsStage stage.Plain = Unit {0}
IsStage stage.Slash = Unit {0}
IsStage (stage.Digit d) = d < 16

abbrev pub IsWithinStage : Step ℕ → Type 0
IsWithinStage (Within s) = IsStage s
IsWithinStage (Read b) = Unit {0}

-- all begins with these bytes
abbrev pub BeginsWith : List ℕ → List ℕ → Type 0
BeginsWith start all = (added : List ℕ) × (all ≡ start ++ added)
