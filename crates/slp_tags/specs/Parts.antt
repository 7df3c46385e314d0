-- A part of a list of tags while it is read.
use Rattle.std.specs.Prelude.{ℕ, Bool, List, [], ◌∷◌, ◌++◌, map, flat_map, Some, None, Result, if◌then◌else◌}
use Rattle.ucd_case.specs.CaseFolding.{full_fold}
use Rattle.slp_text.specs.Ascii.{space}
use Rattle.slp_text.specs.Escapes.{is_escapable, is_refused}
use Rattle.slp_text.specs.Keys.{squeezed_by, squeezed_rest_by}
use Rattle.slp_text.specs.Reading.{read_map}
use Rattle.slp_text.specs.Steps.{part_end, step_of}
use Rattle.slp_tags.specs.Tags.{Part, Sign, is_star, is_white_sign, sign_bytes}
use Rattle.slp_text.specs.declared.escapes.Place.TheVariants.{Tag}
use Rattle.slp_text.specs.declared.escapes.Stage.{Stage}
use Rattle.slp_text.specs.declared.escapes.Step.{Step}
use Rattle.slp_text.specs.declared.escapes.Step.TheVariants.{Within, Read}
use Rattle.slp_text.specs.declared.faults.TextFault.{TextFault}

-- a step of a text, as one of its signs
abbrev pub sign_in : Step ℕ → Step Sign
sign_in (Within s) = Within s
sign_in (Read c) = Read (Some c)

-- what one character more gives, where a raw `*` ends the piece before it
abbrev pub sign_step : Stage → ℕ → Result (Step Sign) TextFault
sign_step s c = if is_star c then read_map (λ piece. Read None) (part_end Tag s) else read_map sign_in (step_of is_escapable (is_refused Tag c) s c)

abbrev pub folded_sign : Sign → List Sign
folded_sign None = None ∷ []
folded_sign (Some c) = map Some (full_fold c)

-- what folded signs still give after a part, where gap says that white space came since
abbrev pub signs_left : Bool → Part → List Sign → List Sign
signs_left gap [] signs = squeezed_by is_white_sign (Some space) signs
signs_left gap (b ∷ bs) signs = squeezed_rest_by is_white_sign (Some space) gap signs

-- the part with it
abbrev pub part_with : Bool → Part → List Sign → Part
part_with gap part signs = part ++ flat_map sign_bytes (signs_left gap part signs)
