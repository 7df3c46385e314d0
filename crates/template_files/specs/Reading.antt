-- Reading a template line by line, to its first fault (RFC 2609, section 4).
use Rattle.std.specs.Prelude.{ℕ, ◌+◌, ◌-◌, Bool, true, false, not, ◌==◌, nat_lt, List, [], ◌∷◌, ◌++◌, length, map, filter, chars, codes, Option, Some, None, is_some, Result, Ok, Err, if◌then◌else◌}
use Rattle.std.specs.List.{list_all, list_any, slice_split}
use Rattle.std.specs.Option.{option_and_then, option_map, option_map_or}
use Rattle.std.specs.Result.{result_ok}
use Rattle.std.specs.Str.Lines.{lines}
use Rattle.slp_text.specs.Ascii.{equals_sign, space}
use Rattle.slp_text.specs.Keys.{is_white, trim_start, folded_text}
use Rattle.slp_text.specs.Reading.{read_all, read_map, read_then}
use Rattle.slp_text.specs.Lists.{is_comma}
use Rattle.slp_text.specs.Words.{bytes_eq, is_blank}
use Rattle.service_url.specs.Types.{service_by}
use Rattle.attr_values.specs.Rests.{rest_after}
use Rattle.attr_values.specs.Values.{value_of}
use Rattle.attr_values.specs.declared.fault.AttrFault.{AttrFault}
use Rattle.attr_values.specs.declared.fault.AttrFault.TheVariants.{BadTag}
use Rattle.attr_values.specs.declared.value.Value.{Value}
use Rattle.attr_list.specs.Pieces.{part_after, part_before}
use Rattle.attr_list.specs.Reading.{tag_or}
use Rattle.attr_operands.specs.Operands.{operand_of}
use Rattle.srv_template.specs.Conformity.{takes}
use Rattle.srv_template.specs.Templates.{Template}
use Rattle.srv_template.specs.declared.definition.Definition.{Definition}
use Rattle.srv_template.specs.declared.definition.ValueKind.{ValueKind}
use Rattle.srv_template.specs.declared.definition.ValueKind.TheVariants as kind
use Rattle.srv_template.specs.declared.fault.ParseFault.{ParseFault}
use Rattle.srv_template.specs.declared.fault.ParseFault.TheVariants.{Line}
use Rattle.template_files.specs.declared.words.Flags.{Flags}

-- the bytes of the longest template
abbrev pub longest_text : ℕ
longest_text = 1048576

-- ---- header lines

-- white space comes first
abbrev pub begins_white : List ℕ → Bool
begins_white [] = false
begins_white (c ∷ cs) = is_white c

-- What comes after the `=` of a line that is this name, `=` and a value. White space before the `=` means nothing, nor does the name's case.
abbrev pub value_after : List ℕ → List ℕ → Option (List ℕ)
value_after name line =
    if begins_white line then None
    else (if bytes_eq (folded_text (part_before equals_sign (chars line))) name then part_after equals_sign (chars line) else None)

abbrev pub type_word : List ℕ
type_word = codes "template-type"

abbrev pub version_word : List ℕ
version_word = codes "template-version"

abbrev pub description_word : List ℕ
description_word = codes "template-description"

abbrev pub syntax_word : List ℕ
syntax_word = codes "template-url-syntax"

-- the name of the type that the line of the type gives
abbrev pub type_in : List ℕ → Option (List ℕ)
type_in line = option_and_then (λ cs. result_ok (service_by (folded_text cs))) (value_after type_word line)

-- ---- the first line of a definition

-- `b'#'`
abbrev pub number_sign : ℕ
number_sign = 35

-- it comes first, after white space
abbrev pub is_help : List ℕ → Bool
is_help line = is_some (rest_after (λ c. c == number_sign) (trim_start (chars line)))

abbrev pub is_space : ℕ → Bool
is_space b = b == space

-- the words of a text, folded
abbrev pub words_of : List ℕ → List (List ℕ)
words_of cs = slice_split is_space (folded_text cs)

abbrev pub kind_of : List ℕ → Option ValueKind
kind_of word =
    if bytes_eq word (codes "string") then Some kind.Text
    else (if bytes_eq word (codes "integer") then Some kind.Integer
    else (if bytes_eq word (codes "boolean") then Some kind.Boolean
    else (if bytes_eq word (codes "opaque") then Some kind.Opaque
    else (if bytes_eq word (codes "keyword") then Some kind.Keyword else None))))

abbrev pub no_flags : Flags
no_flags = record { multiple = false; optional = false; literal = false; explicit = false }

-- with one flag more, which is not there yet
abbrev pub flags_with : Flags → List ℕ → Option Flags
flags_with f word =
    if bytes_eq word (codes "m") then (if f.multiple then None else Some (record f { multiple = true }))
    else (if bytes_eq word (codes "o") then (if f.optional then None else Some (record f { optional = true }))
    else (if bytes_eq word (codes "l") then (if f.literal then None else Some (record f { literal = true }))
    else (if bytes_eq word (codes "x") then (if f.explicit then None else Some (record f { explicit = true })) else None)))

abbrev pub flags_from : Flags → List (List ℕ) → Option Flags
flags_from f [] = Some f
flags_from f (w ∷ ws) = option_and_then (λ g. flags_from g ws) (flags_with f w)

-- a kind, and then flags, each once at most
abbrev pub kind_and_flags : List (List ℕ) → Option (ValueKind × Flags)
kind_and_flags [] = None
kind_and_flags (w ∷ ws) = option_and_then (λ k. option_map (λ f. (k, f)) (flags_from no_flags ws)) (kind_of w)

-- ---- the values of a definition

-- the lines that are no help
abbrev pub spoken : List (List ℕ) → List (List ℕ)
spoken = filter (λ l. not (is_help l))

-- up to the first that passes a test, and from it on
abbrev pub to_first : {A : Type 0} → (A → Bool) → List A → List A
to_first test [] = []
to_first test (x ∷ xs) = if test x then [] else x ∷ to_first test xs

abbrev pub from_first : {A : Type 0} → (A → Bool) → List A → List A
from_first test [] = []
from_first test (x ∷ xs) = if test x then x ∷ xs else from_first test xs

-- those before the first line of help, and those from it on
abbrev pub before_help : List (List ℕ) → List (List ℕ)
before_help = to_first is_help

abbrev pub from_help : List (List ℕ) → List (List ℕ)
from_help = from_first is_help

-- lines joined by a SPACE
abbrev pub joined : List (List ℕ) → List ℕ
joined [] = []
joined (l ∷ []) = l
joined (l ∷ m ∷ ls) = l ++ space ∷ joined (m ∷ ls)

-- without the last, where it is white space alone
abbrev pub without_blank_end : List (List ℕ) → List (List ℕ)
without_blank_end [] = []
without_blank_end (p ∷ []) = if list_all is_white p then [] else p ∷ []
without_blank_end (p ∷ q ∷ ps) = p ∷ without_blank_end (q ∷ ps)

-- the values that a text lists, with a comma between each two
abbrev pub values_in : List ℕ → Result (List Value) AttrFault
values_in text = read_all value_of (without_blank_end (slice_split is_comma (chars text)))

abbrev pub if_all_fit : ValueKind → List Value → Option (List Value)
if_all_fit k vs = if list_all (takes k) vs then Some vs else None

-- the values that lines list, if each is of the kind
abbrev pub values_for : ValueKind → List (List ℕ) → Option (List Value)
values_for k ls = option_and_then (if_all_fit k) (result_ok (values_in (joined (spoken ls))))

-- ---- a definition

abbrev pub definition_with : List ℕ → List (List ℕ) → ValueKind × Flags → Option Definition
definition_with tag body p =
    option_and_then (λ defaults. option_map (λ allowed. record { tag = tag; kind = p.0; multiple = p.1.multiple; optional = p.1.optional; allowed = map operand_of allowed })
    (values_for p.0 (from_help body))) (values_for p.0 (before_help body))

-- the definition that its first line and the others give: tag, `=`, kind and flags; defaults, help, and allowed values
abbrev pub definition_at : List ℕ → List (List ℕ) → Option Definition
definition_at first body =
    if is_help first then None
    else option_and_then (λ after. option_and_then (λ tag. option_and_then (definition_with tag body) (kind_and_flags (words_of after)))
    (result_ok (tag_or BadTag (part_before equals_sign (chars first))))) (part_after equals_sign (chars first))

abbrev pub definition_in : List (List ℕ) → Option Definition
definition_in [] = None
definition_in (l ∷ ls) = definition_at l ls

-- ---- lines

-- from the first line on that is not blank
abbrev pub after_blanks : List (List ℕ) → List (List ℕ)
after_blanks [] = []
after_blanks (l ∷ ls) = if is_blank l then after_blanks ls else l ∷ ls

-- up to the first blank line, and from it on
abbrev pub to_blank : List (List ℕ) → List (List ℕ)
to_blank = to_first is_blank

abbrev pub from_blank : List (List ℕ) → List (List ℕ)
from_blank = from_first is_blank

-- lines with no blank one among them, and how many lines were left from the first of them on
pub record Block : Type 0 where
  pub block : List (List ℕ)
  pub left : ℕ

-- a block begins with a line that is not blank, unless this is inside of one
abbrev pub blocks_from : Bool → List (List ℕ) → List Block
blocks_from inside [] = []
blocks_from inside (l ∷ ls) =
    if is_blank l then blocks_from false ls
    else (if inside then blocks_from true ls else record { block = l ∷ to_blank ls; left = length (l ∷ ls) } ∷ blocks_from true ls)

-- the blocks of lines between blank ones
abbrev pub blocks_of : List (List ℕ) → List Block
blocks_of = blocks_from false

-- some definition is of the tag
abbrev pub is_defined : List Definition → List ℕ → Bool
is_defined ds tag = list_any (λ d. bytes_eq d.tag tag) ds

-- the definitions of blocks after these, each of a tag of its own; else how many lines are left from the first block on that does not fit
abbrev pub definitions_from : List Definition → List Block → Result (List Definition) ℕ
definitions_from ds [] = Ok ds
definitions_from ds (b ∷ bs) =
    option_map_or (λ d. if is_defined ds d.tag then Err b.left else definitions_from (ds ++ d ∷ []) bs) (definition_in b.block) (Err b.left)

-- ---- a template

-- What a part's line gives and what follows it; else how many lines are left where it does not stand.
abbrev pub part_at : {A : Type 0} → (List ℕ → Option A) → List (List ℕ) → Result (A × List (List ℕ)) ℕ
part_at f [] = Err 0
part_at f (l ∷ ls) = option_map_or (λ x. Ok (x, ls)) (f l) (Err (length (l ∷ ls)))

abbrev pub part_in : {A : Type 0} → (List ℕ → Option A) → List (List ℕ) → Result (A × List (List ℕ)) ℕ
part_in f ls = part_at f (after_blanks ls)

-- the definitions of the lines after that of the type: one of the version, a description and a syntax up to a blank line each, and definitions
abbrev pub definitions_after : List (List ℕ) → Result (List Definition) ℕ
definitions_after ls =
    read_then (λ version. read_then (λ description. read_then (λ syntax.
    definitions_from [] (blocks_of (from_blank syntax.1)))
    (part_in (value_after syntax_word) (from_blank description.1)))
    (part_in (value_after description_word) version.1))
    (part_in (value_after version_word) ls)

-- the lines of a template: that of its type, and the others
abbrev pub template_of_lines : List (List ℕ) → Result Template ℕ
template_of_lines ls = read_then (λ type. read_map (λ ds. record { name = type.0; definitions = ds }) (definitions_after type.1)) (part_in type_in ls)

-- the number of the line from which on so many of n are left
abbrev pub at_line : {A : Type 0} → ℕ → Result A ℕ → Result A ParseFault
at_line n (Ok x) = Ok x
at_line n (Err left) = Err (Line (n + 1 - left))

-- the template that a text is read as, or the number of the first line that does not fit
unfoldable pub template_in : List ℕ → Result Template ParseFault
template_in text = if nat_lt longest_text (length text) then Err (Line 1) else at_line (length (lines text)) (template_of_lines (lines text))
