-- Which default values a template refuses itself.
use Rattle.std.specs.Prelude.{ℕ, List, [], ◌∷◌, filter_map, is_some, Option, Some, None, Result, if◌then◌else◌}
use Rattle.std.specs.Option.{option_and_then}
use Rattle.std.specs.Result.{result_unwrap_or}
use Rattle.slp_text.specs.Reading.{read_map, read_then}
use Rattle.attr_values.specs.declared.value.Value.{Value}
use Rattle.srv_template.specs.Conformity.{fault_of_values}
use Rattle.template_files.specs.Parts.{lines_after}
use Rattle.template_files.specs.Reading.{before_help, blocks_of, definition_at, description_word, from_blank, part_in, syntax_word, type_in, values_for, version_word}
use Rattle.srv_template.specs.declared.definition.Definition.{Definition}

-- the tag of a definition, where these values are more than it allows, or one of them is none that it allows
abbrev pub tag_refusing : Definition → List Value → Option (List ℕ)
tag_refusing d vs = if is_some (fault_of_values d vs) then Some d.tag else None

-- the same where these lines list its default values
abbrev pub tag_refusing_lines : List (List ℕ) → Definition → Option (List ℕ)
tag_refusing_lines ls d = option_and_then (tag_refusing d) (values_for d.kind ls)

-- the tag of the definition that a first line and the others give, where it refuses its own default values
abbrev pub refused_default : List ℕ → List (List ℕ) → Option (List ℕ)
refused_default first body = option_and_then (tag_refusing_lines (before_help body)) (definition_at first body)

-- of the lines of a definition
abbrev pub refused_in_lines : List (List ℕ) → Option (List ℕ)
refused_in_lines [] = None
refused_in_lines (l ∷ ls) = refused_default l ls

-- the tags of the definitions in lines that refuse their own default values
abbrev pub refused_among : List (List ℕ) → List (List ℕ)
refused_among ls = filter_map (λ b. refused_in_lines b.block) (blocks_of ls)

-- the lines from the blank one on that ends the syntax of URLs
abbrev pub definition_lines : List (List ℕ) → Result (List (List ℕ)) ℕ
definition_lines ls =
    read_then (λ type. read_then (λ version. read_then (λ description. read_map from_blank
    (lines_after syntax_word (from_blank description)))
    (lines_after description_word version))
    (lines_after version_word type.1))
    (part_in type_in ls)

-- the tags of those of a template
abbrev pub refused_defaults : List (List ℕ) → List (List ℕ)
refused_defaults ls = refused_among (result_unwrap_or (definition_lines ls) [])
