-- At which part lines stop being a template.
use Rattle.std.specs.Prelude.{ℕ, ◌-◌, List, [], drop, length, Option, Some, None, Result, Ok, Err}
use Rattle.slp_text.specs.Reading.{read_map}
use Rattle.template_files.specs.Faults.{refusal_of}
use Rattle.template_files.specs.Reading.{blocks_of, definitions_from, description_word, from_blank, part_in, syntax_word, type_in, value_after, version_word}
use Rattle.srv_template.specs.declared.definition.Definition.{Definition}
use Rattle.template_files.specs.declared.parts.Part.{Part}
use Rattle.template_files.specs.declared.parts.Part.TheVariants.{ServiceType, Version, Description, Syntax, Definitions}

-- the part, where reading it is refused, else what comes of what it gives
abbrev pub part_or : {A : Type 0} → Part → (A → Option Part) → Result A ℕ → Option Part
part_or part after (Ok x) = after x
part_or part after (Err left) = Some part

-- the lines after the one that begins the part of this name
abbrev pub lines_after : List ℕ → List (List ℕ) → Result (List (List ℕ)) ℕ
lines_after name ls = read_map (λ p. p.1) (part_in (value_after name) ls)

-- that definitions are at fault, and why, where reading these lines stops with so many of them left
abbrev pub refused_in : List (List ℕ) → Result (List Definition) ℕ → Option Part
refused_in ls (Ok ds) = None
refused_in ls (Err left) = Some (Definitions (refusal_of (drop (length ls - left) ls)))

-- that the definitions in lines are at fault, and why
abbrev pub faulty_definitions : List (List ℕ) → Option Part
faulty_definitions ls = refused_in ls (definitions_from [] (blocks_of ls))

-- the first part at fault in the lines after that of the type
unfoldable pub faulty_after_type : List (List ℕ) → Option Part
faulty_after_type ls =
    part_or Version (λ version. part_or Description (λ description. part_or Syntax (λ syntax. faulty_definitions (from_blank syntax))
    (lines_after syntax_word (from_blank description)))
    (lines_after description_word version))
    (lines_after version_word ls)

-- and in all lines
unfoldable pub faulty_part_in : List (List ℕ) → Option Part
faulty_part_in ls = part_or ServiceType (λ type. faulty_after_type type.1) (part_in type_in ls)
