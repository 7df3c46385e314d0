-- Reading an attribute list from the left, to its first fault.
use Rattle.std.specs.Prelude.{ℕ, ◌==◌, ◌&&◌, List, [], ◌∷◌, ◌++◌, length, chars, Result, Ok, Err, if◌then◌else◌}
use Rattle.std.specs.List.{list_all}
use Rattle.slp_text.specs.Ascii.{comma, equals_sign, left_parenthesis, right_parenthesis}
use Rattle.slp_text.specs.Escapes.{unescaped_text_at}
use Rattle.slp_text.specs.Keys.{is_white, folded_text}
use Rattle.slp_text.specs.Reading.{read_map, read_then}
use Rattle.slp_text.specs.declared.escapes.Place.TheVariants as place
use Rattle.slp_text.specs.declared.faults.TextFault.{TextFault}
use Rattle.slp_text.specs.declared.faults.TextFault.TheVariants as text
use Rattle.attr_values.specs.Values.{value_of}
use Rattle.attr_values.specs.declared.fault.AttrFault.{AttrFault}
use Rattle.attr_values.specs.declared.fault.AttrFault.TheVariants.{BadEscape, BadTag, BadList, NoMemory}
use Rattle.attr_values.specs.declared.value.Value.{Value}
use Rattle.attr_list.specs.Elements.{Element}
use Rattle.attr_list.specs.Lists.{Attributes, attributes_of}

-- the fault of a tag: what is reserved stands raw
abbrev pub fault_in_tag : TextFault → AttrFault
fault_in_tag text.BadEscape = BadEscape
fault_in_tag text.Reserved = BadTag
fault_in_tag text.NotUtf8 = BadTag
fault_in_tag text.NoMemory = NoMemory

-- the tag of unescaped characters, which is its key; an empty one is the given fault
abbrev pub tag_by : AttrFault → Result (List ℕ) TextFault → Result (List ℕ) AttrFault
tag_by empty (Ok read) = if length (folded_text read) == 0 then Err empty else Ok (folded_text read)
tag_by empty (Err e) = Err (fault_in_tag e)

-- the tag that characters spell, or their first fault
abbrev pub tag_or : AttrFault → List ℕ → Result (List ℕ) AttrFault
tag_or empty cs = tag_by empty (unescaped_text_at place.Tag cs)

-- where reading stands: in an element, with its characters so far; after `(`, with those of its tag so far; among the values
-- of a tag, with those that were read and the characters of the next so far; or after `)`
pub data Point : Type 0 where
  InElement : List ℕ → Point
  InTag : List ℕ → Point
  InValue : List ℕ → List Value → List ℕ → Point
  AtEnd : Element → Point

-- what the end of a list gives at a point
abbrev pub read_end : Point → Result (List Element) AttrFault
read_end (InElement cs) = read_map (λ tag. record { tag = tag; values = [] } ∷ []) (tag_or BadList cs)
read_end (InTag cs) = read_then (λ tag. Err BadList) (tag_or BadList cs)
read_end (InValue tag vs cs) = read_then (λ v. Err BadList) (value_of cs)
read_end (AtEnd e) = Ok (e ∷ [])

-- the elements from a point of the text on, character by character
abbrev pub read_from : Point → List ℕ → Result (List Element) AttrFault
read_from p [] = read_end p
read_from (InElement cs) (c ∷ more) =
    if c == comma then read_then
    (λ tag. read_map (λ es. record { tag = tag; values = [] } ∷ es) (read_from (InElement []) more)) (tag_or BadList cs)
    else (if c == left_parenthesis && list_all is_white cs then read_from (InTag []) more
    else read_from (InElement (cs ++ c ∷ [])) more)
read_from (InTag cs) (c ∷ more) =
    if c == equals_sign then read_then (λ tag. read_from (InValue tag [] []) more) (tag_or BadTag cs)
    else read_from (InTag (cs ++ c ∷ [])) more
read_from (InValue tag vs cs) (c ∷ more) =
    if c == comma then read_then (λ v. read_from (InValue tag (vs ++ v ∷ []) []) more) (value_of cs)
    else (if c == right_parenthesis then read_then
    (λ v. read_from (AtEnd (record { tag = tag; values = vs ++ v ∷ [] })) more) (value_of cs)
    else read_from (InValue tag vs (cs ++ c ∷ [])) more)
read_from (AtEnd e) (c ∷ more) =
    if c == comma then read_map (λ es. e ∷ es) (read_from (InElement []) more)
    else (if is_white c then read_from (AtEnd e) more else Err BadList)

-- the elements that characters spell, or the first fault
abbrev pub elements_of : List ℕ → Result (List Element) AttrFault
elements_of cs = if list_all is_white cs then Ok [] else read_from (InElement []) cs

-- the attributes that a text is read as, or the first fault
abbrev pub attributes_in : List ℕ → Result Attributes AttrFault
attributes_in text = read_map attributes_of (elements_of (chars text))
