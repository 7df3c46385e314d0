-- A list of attributes, piece by piece.
use Rattle.std.specs.Prelude.{◌≡◌, ◌≢◌, ℕ, ◌<◌, ◌==◌, List, [], ◌∷◌, length, Option, Some, None, Result, Ok, Err, IsUtf8, vec_items, if◌then◌else◌}
use Rattle.std.specs.List.{AllByRecursion}
use Rattle.slp_text.specs.Ascii.{comma, left_parenthesis}
use Rattle.slp_text.specs.Keys.{key_of, trim_start}
use Rattle.slp_text.specs.Reading.{read_map, read_then}
use Rattle.attr_values.specs.Kinds.{IsValue}
use Rattle.attr_values.specs.Reading.{IsFault}
use Rattle.attr_values.specs.Rests.{rest_after, rest_of}
use Rattle.attr_values.specs.declared.fault.AttrFault.{AttrFault}
use Rattle.attr_values.specs.declared.fault.AttrFault.TheVariants.{BadList}
use Rattle.attr_list.specs.Elements.{Element}
use Rattle.attr_list.specs.Reading.{InElement, read_from, tag_or}
use Rattle.attr_list.specs.declared.elements.Element as declared
use Rattle.attr_list.specs.declared.reading.Piece.{Piece}

-- what stands before the first of a mark
abbrev pub part_before : ℕ → List ℕ → List ℕ
part_before mark [] = []
part_before mark (c ∷ cs) = if c == mark then [] else c ∷ part_before mark cs

-- what comes after it, if it is there
abbrev pub part_after : ℕ → List ℕ → Option (List ℕ)
part_after mark [] = None
part_after mark (c ∷ cs) = if c == mark then Some cs else part_after mark cs

-- what comes after a `(` with which characters begin, after white space
abbrev pub opened_rest : List ℕ → Option (List ℕ)
opened_rest cs = rest_after (λ c. c == left_parenthesis) (trim_start cs)

-- what comes after the comma at the end of an element, if one is there
abbrev pub next_of : List ℕ → Result (Option (List ℕ)) AttrFault
next_of [] = Ok None
next_of (c ∷ cs) = if c == comma then Ok (Some cs) else Err BadList

-- the same after white space
abbrev pub next_after : List ℕ → Result (Option (List ℕ)) AttrFault
next_after cs = next_of (trim_start cs)

-- an element, and what is read of the list after it
abbrev pub followed_element : Element → Option (List ℕ) → Result (List Element) AttrFault
followed_element e None = Ok (e ∷ [])
followed_element e (Some more) = read_map (λ es. e ∷ es) (read_from (InElement []) more)

-- an element as definitions have it
abbrev pub element_in : declared.Element → Element
element_in e = record { tag = e.tag; values = vec_items e.values }

-- the key of a tag
pub record IsTagKey (tag : List ℕ) : Type 0 where
  pub utf8 : IsUtf8 tag
  pub is_some : tag ≢ []
  pub is_own_key : key_of tag ≡ tag

-- an element that there is
pub record IsElement (e : Element) : Type 0 where
  pub tag : IsTagKey e.tag
  pub values : AllByRecursion IsValue e.values

-- what is left is shorter
abbrev pub IsShorter : Option (List ℕ) → List ℕ → Type 0
IsShorter None cs = Unit {0}
IsShorter (Some more) cs = length more < length cs

-- what reading gives is this piece's element, and what is read of the list after it
abbrev pub IsPiece : Result Piece AttrFault → Result (List Element) AttrFault → Type 0
IsPiece (Ok p) read = read ≡ followed_element (element_in p.element) (rest_of p.rest)
IsPiece (Err e) read = IsFault e read

-- what is read of a `(` and a tag that no `=` follows
abbrev pub unvalued_reading : List ℕ → Result (List Element) AttrFault
unvalued_reading cs = read_then (λ tag. Err BadList) (tag_or BadList cs)
