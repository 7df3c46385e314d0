-- What is wrong with a text as a template.
use Rattle.std.specs.Prelude.{ℕ, List, [], codes, length, nat_lt, if◌then◌else◌}
use Rattle.std.specs.List.{flat_map}
use Rattle.std.specs.Option.{option_map_or}
use Rattle.std.specs.Str.Lines.{lines}
use Rattle.template_files.specs.Defaults.{refused_defaults}
use Rattle.template_files.specs.Parts.{faulty_part_in}
use Rattle.template_files.specs.declared.faults.DefinitionFault.{DefinitionFault}
use Rattle.template_files.specs.declared.faults.DefinitionFault.TheVariants as fault
use Rattle.template_files.specs.declared.parts.Part.{Part}
use Rattle.template_files.specs.declared.parts.Part.TheVariants.{ServiceType, Version, Description, Syntax, Definitions}
use Rattle.site_check.specs.Lines.{File, Line, RefusedDefault, Template, TooLong, longest_text, problem_line, warning_line}

-- what is wrong with a definition
abbrev pub definition_text : DefinitionFault → List ℕ
definition_text fault.Form = codes "expected TAG = KIND, and flags"
definition_text fault.Tag = codes "what stands before the = is no tag"
definition_text fault.Kind = codes "its kind is none of STRING, INTEGER, BOOLEAN, OPAQUE and KEYWORD"
definition_text fault.Flag = codes "a flag is none of M, O, L and X"
definition_text fault.FlagTwice = codes "a flag stands twice"
definition_text fault.KeywordValues = codes "a KEYWORD has no values"
definition_text fault.NoBlankLine = codes "a value has a raw =, or no blank line stands before the next definition"
definition_text fault.DefaultUnread = codes "a default value is not read: ( ) , \\ ! < = > ~ are written as \\28 and so on"
definition_text fault.DefaultKind = codes "a default value is not of its kind"
definition_text fault.AllowedUnread = codes "an allowed value is not read: ( ) , \\ ! < = > ~ are written as \\28 and so on"
definition_text fault.AllowedKind = codes "an allowed value is not of its kind"
definition_text fault.Twice = codes "an earlier definition is of its tag"

-- what is wrong where a template stops at a part
abbrev pub refusal_text : Part → List ℕ
refusal_text ServiceType = codes "expected template-type=TYPE"
refusal_text Version = codes "expected template-version="
refusal_text Description = codes "expected template-description="
refusal_text Syntax = codes "expected template-url-syntax="
refusal_text (Definitions f) = definition_text f

-- a tag of a template whose definition refuses its own default values
abbrev pub default_line : List ℕ → List ℕ → List ℕ
default_line path tag = warning_line (File path) (RefusedDefault tag)

-- each such tag of the template that a text is
abbrev pub default_lines : List ℕ → List ℕ → List ℕ
default_lines path text = flat_map (default_line path) (refused_defaults (lines text))

-- of a text that was refused at a line: that it is too long, else the first part that is at fault
abbrev pub template_lines : List ℕ → List ℕ → ℕ → List ℕ
template_lines path text line =
    if nat_lt longest_text (length text) then problem_line (File path) TooLong
    else option_map_or (λ part. problem_line (Line path line) (Template (refusal_text part))) (faulty_part_in (lines text)) []
