-- Why a definition is refused (RFC 2609, section 4.2).
use Rattle.std.specs.Prelude.{ℕ, Bool, true, ◌==◌, List, [], ◌∷◌, chars, codes, is_some, if◌then◌else◌}
use Rattle.std.specs.List.{list_all, list_any}
use Rattle.std.specs.Option.{option_map_or}
use Rattle.std.specs.Result.{result_ok}
use Rattle.slp_text.specs.Ascii.{equals_sign}
use Rattle.slp_text.specs.Words.{bytes_eq}
use Rattle.attr_values.specs.declared.fault.AttrFault.TheVariants.{BadTag}
use Rattle.attr_list.specs.Pieces.{part_after, part_before}
use Rattle.attr_list.specs.Reading.{tag_or}
use Rattle.srv_template.specs.Conformity.{is_keyword}
use Rattle.template_files.specs.Reading.{before_help, definition_at, flags_from, from_help, is_help, joined, kind_of, no_flags, spoken, to_blank, values_for, values_in, words_of}
use Rattle.srv_template.specs.declared.definition.ValueKind.{ValueKind}
use Rattle.template_files.specs.declared.faults.DefinitionFault.{DefinitionFault}
use Rattle.template_files.specs.declared.faults.DefinitionFault.TheVariants.{Form, Tag, Kind, Flag, FlagTwice, KeywordValues, NoBlankLine, DefaultUnread, DefaultKind, AllowedUnread, AllowedKind, Twice}

-- a line has a `=`
abbrev pub has_equals : List ℕ → Bool
has_equals line = list_any (λ c. c == equals_sign) (chars line)

-- why values are refused which lines list: a keyword has none; where a line has a `=`, the blank line before the next definition may be missing; else one is not read (unread), or is of another kind (other)
abbrev pub values_fault : ValueKind → DefinitionFault → DefinitionFault → List (List ℕ) → DefinitionFault
values_fault k unread other ls =
    if is_keyword k then KeywordValues
    else (if list_any has_equals (spoken ls) then NoBlankLine
    else option_map_or (λ vs. other) (result_ok (values_in (joined (spoken ls)))) unread)

-- the defaults are looked at first
abbrev pub body_fault : ValueKind → List (List ℕ) → DefinitionFault
body_fault k body =
    if is_some (values_for k (before_help body)) then values_fault k AllowedUnread AllowedKind (from_help body)
    else values_fault k DefaultUnread DefaultKind (before_help body)

-- the word is m, o, l or x
abbrev pub is_flag : List ℕ → Bool
is_flag word =
    if bytes_eq word (codes "m") then true
    else (if bytes_eq word (codes "o") then true
    else (if bytes_eq word (codes "l") then true
    else bytes_eq word (codes "x")))

-- why flags are refused: one of them is none, or stands twice
abbrev pub flags_fault : List (List ℕ) → DefinitionFault
flags_fault words = if list_all is_flag words then FlagTwice else Flag

-- of the words after the `=`, and the lines after the first
abbrev pub words_fault : List (List ℕ) → List (List ℕ) → DefinitionFault
words_fault [] body = Kind
words_fault (w ∷ ws) body = option_map_or (λ k. if is_some (flags_from no_flags ws) then body_fault k body else flags_fault ws) (kind_of w) Kind

-- of the first line, and the lines after it up to a blank one
abbrev pub definition_fault : List ℕ → List (List ℕ) → DefinitionFault
definition_fault first body =
    if is_help first then Form
    else option_map_or (λ after. if is_some (result_ok (tag_or BadTag (part_before equals_sign (chars first)))) then words_fault (words_of after) body else Tag)
    (part_after equals_sign (chars first)) Form

-- of a definition that is refused; one that can be read has the tag of an earlier one
abbrev pub refusal_at : List ℕ → List (List ℕ) → DefinitionFault
refusal_at first body = if is_some (definition_at first body) then Twice else definition_fault first body

-- of the lines from the first of it on
abbrev pub refusal_of : List (List ℕ) → DefinitionFault
refusal_of [] = Form
refusal_of (l ∷ ls) = refusal_at l (to_blank ls)
