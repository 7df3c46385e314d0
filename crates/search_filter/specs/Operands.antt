-- The item of a text: its tag, its operator and its operand (RFC 2608, section 8.1; RFC 2254).
use Rattle.std.specs.Prelude.{ℕ, Bool, false, true, is_some, slice_get, length, ◌-◌, ◌==◌, List, [], ◌∷◌, chars, encode_utf8_all, Result, Ok, Err, if◌then◌else◌}
use Rattle.std.specs.List.{slice_split}
use Rattle.std.specs.Option.{option_map_or}
use Rattle.std.specs.Str.{is_utf8}
use Rattle.slp_text.specs.Ascii.{asterisk, colon, equals_sign, greater_than_sign, less_than_sign, tilde}
use Rattle.slp_text.specs.Escapes.{unescaped_bytes}
use Rattle.slp_text.specs.Keys.{squeezed_text, trimmed_text}
use Rattle.slp_text.specs.Reading.{read_all, read_map, read_then}
use Rattle.slp_tags.specs.Tags.{is_star}
use Rattle.slp_text.specs.declared.faults.TextFault.{TextFault}
use Rattle.text_patterns.specs.Patterns.{pattern_of}
use Rattle.attr_values.specs.Values.{opaque_bytes, opaque_rest, value_of_form}
use Rattle.attr_values.specs.declared.fault.AttrFault.{AttrFault}
use Rattle.attr_values.specs.declared.fault.AttrFault.TheVariants.{BadTag}
use Rattle.attr_list.specs.Pieces.{part_after, part_before}
use Rattle.attr_list.specs.Reading.{tag_or}
use Rattle.search_filter.specs.declared.fault.FilterFault.{FilterFault}
use Rattle.search_filter.specs.declared.fault.FilterFault.TheVariants.{Syntax, Wildcard}
use Rattle.search_filter.specs.declared.item.Condition.{Condition}
use Rattle.search_filter.specs.declared.item.Condition.TheVariants.{Present, Equal, AtLeast, AtMost, Like}
use Rattle.search_filter.specs.declared.item.Item.{Item}
use Rattle.attr_operands.specs.declared.operand.Operand.{Operand}
use Rattle.attr_operands.specs.declared.operand.Operand.TheVariants as operand
use Rattle.attr_operands.specs.Operands.{operand_of}
use Rattle.search_filter.specs.declared.reading.Operator.{Operator}
use Rattle.search_filter.specs.declared.reading.Operator.TheVariants as operator

-- the character stands among them
abbrev pub has : ℕ → List ℕ → Bool
has mark cs = is_some (part_after mark cs)

-- NUL
abbrev pub null : ℕ
null = 0

-- ---- the tag and the operator

-- the last byte is a `:`
abbrev pub ends_with_colon : List ℕ → Bool
ends_with_colon k = option_map_or (λ b. b == colon) (slice_get k (length k - 1)) false

-- the key of a tag, which ends with no `:`
abbrev pub tag_by : Result (List ℕ) AttrFault → Result (List ℕ) FilterFault
tag_by (Ok tag) = if ends_with_colon tag then Err Syntax else Ok tag
tag_by (Err e) = Err Syntax

-- the key of the tag that characters spell
abbrev pub tag_in : List ℕ → Result (List ℕ) FilterFault
tag_in cs = tag_by (tag_or BadTag cs)

-- there are no characters
abbrev pub is_nothing : List ℕ → Bool
is_nothing [] = true
is_nothing (c ∷ cs) = false

-- the mark stands at the end, and nowhere else
abbrev pub ends_at : ℕ → List ℕ → Bool
ends_at mark cs = option_map_or is_nothing (part_after mark cs) false

-- the text of the tag, and the operator, of what stands before the first `=`
abbrev pub operator_in : List ℕ → List ℕ × Operator
operator_in cs =
    if ends_at tilde cs then (part_before tilde cs, operator.Alike)
    else (if ends_at greater_than_sign cs then (part_before greater_than_sign cs, operator.AtLeast)
    else (if ends_at less_than_sign cs then (part_before less_than_sign cs, operator.AtMost) else (cs, operator.Equal)))

-- ---- the operand

-- the characters that bytes spell
abbrev pub characters_by : Result (List ℕ) TextFault → Result (List ℕ) FilterFault
characters_by (Ok bytes) = if is_utf8 bytes then Ok (chars bytes) else Err Syntax
characters_by (Err e) = Err Syntax

-- characters with their escapes read, each of any byte
abbrev pub characters_in : List ℕ → Result (List ℕ) FilterFault
characters_in cs = characters_by (unescaped_bytes (encode_utf8_all cs))

-- escapes of any byte, and nothing raw
abbrev pub opaque_by : Result (List ℕ) TextFault → Result Operand FilterFault
opaque_by (Ok bytes) = Ok (operand.Opaque bytes)
opaque_by (Err e) = Err Syntax

-- what a value is compared with, as characters spell it
abbrev pub spelled_operand : List ℕ → Result Operand FilterFault
spelled_operand cs = read_map (λ read. operand_of (value_of_form (squeezed_text read))) (characters_in cs)

-- an operand is typed as values are
abbrev pub operand_in : List ℕ → Result Operand FilterFault
operand_in cs = if has null cs then Err Syntax
    else option_map_or (λ rest. opaque_by (opaque_bytes rest)) (opaque_rest (trimmed_text cs)) (spelled_operand cs)

-- ---- operands with a raw `*`

-- nothing before it and nothing after it
abbrev pub is_star_alone : List ℕ → Bool
is_star_alone cs = if ends_at asterisk cs then is_nothing (part_before asterisk cs) else false

-- each `*` stands for any run of characters
abbrev pub pattern_in : List ℕ → Result Condition FilterFault
pattern_in cs = read_map (λ pieces. Like (pattern_of pieces)) (read_all characters_in (slice_split is_star cs))

-- `*` alone asks whether the tag is there; else it is part of a pattern, and does not stand among opaque bytes
abbrev pub starred : List ℕ → Result Condition FilterFault
starred cs =
    if is_star_alone (trimmed_text cs) then Ok Present
    else (if has null cs then Err Syntax
    else option_map_or (λ rest. Err Syntax) (opaque_rest (trimmed_text cs)) (pattern_in cs))

-- the bytes of characters with their escapes read
abbrev pub spelled_bytes : List ℕ → Result (List ℕ) TextFault
spelled_bytes cs = option_map_or opaque_bytes (opaque_rest (trimmed_text cs)) (unescaped_bytes (encode_utf8_all cs))

-- the fault of a `*` that may not stand, after this, unless this has one
abbrev pub star_after : Result (List ℕ) TextFault → FilterFault
star_after (Ok bytes) = Wildcard
star_after (Err e) = Syntax

-- why a text with a raw * is no pattern, by what stands before it
abbrev pub star_fault : List ℕ → FilterFault
star_fault before = if has null before then Syntax else star_after (spelled_bytes before)

-- an operand in which no `*` may stand
abbrev pub unstarred : (Operand → Condition) → List ℕ → Result Condition FilterFault
unstarred f cs = if has asterisk cs then Err (star_fault (part_before asterisk cs)) else read_map f (operand_in cs)

-- the condition that an operator and the characters after it spell
abbrev pub condition_in : Operator → List ℕ → Result Condition FilterFault
condition_in operator.Equal cs = if has asterisk cs then starred cs else read_map Equal (operand_in cs)
condition_in operator.Alike cs = unstarred Equal cs
condition_in operator.AtLeast cs = unstarred AtLeast cs
condition_in operator.AtMost cs = unstarred AtMost cs

-- ---- the item

-- the item of a tag, an operator and the characters after it
abbrev pub item_by : List ℕ × Operator → List ℕ → Result Item FilterFault
item_by p cs = read_then (λ tag. read_map (λ c. record { tag = tag; condition = c }) (condition_in p.1 cs)) (tag_in p.0)

-- the item that characters spell, or their first fault: a tag, `=`, `~=`, `>=` or `<=`, and an operand
abbrev pub item_in : List ℕ → Result Item FilterFault
item_in cs = option_map_or (item_by (operator_in (part_before equals_sign cs))) (part_after equals_sign cs) (Err Syntax)
