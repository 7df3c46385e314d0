-- The filter of a text, from the left to the first fault (RFC 2608, section 8.1; RFC 2254).
use Rattle.std.specs.Prelude.{ℕ, Bool, false, true, ◌==◌, nat_lt, ok_or, List, [], ◌∷◌, ◌++◌, length, chars, Option, Some, None, Result, Ok, Err, if◌then◌else◌}
use Rattle.slp_text.specs.Ascii.{exclamation_mark, left_parenthesis, right_parenthesis}
use Rattle.slp_text.specs.Keys.{is_white}
use Rattle.slp_text.specs.Reading.{read_map, read_then}
use Rattle.slp_text.specs.Words.{is_blank}
use Rattle.search_filter.specs.Filters.{Filter, Filters, all, any, negated, item, none, more}
use Rattle.attr_list.specs.Pieces.{part_before}
use Rattle.search_filter.specs.Operands.{has, item_in}
use Rattle.search_filter.specs.declared.fault.FilterFault.{FilterFault}
use Rattle.search_filter.specs.declared.fault.FilterFault.TheVariants.{Syntax, TooDeep}
use Rattle.search_filter.specs.declared.item.Item.{Item}
use Rattle.search_filter.specs.declared.parsing.Connective.{Connective}
use Rattle.search_filter.specs.declared.parsing.Connective.TheVariants.{And, Or, Not}

-- `b'&'`
abbrev pub ampersand : ℕ
ampersand = 38

-- `b'|'`
abbrev pub vertical_bar : ℕ
vertical_bar = 124

-- how many levels there may be
abbrev pub deepest : ℕ
deepest = 32

-- a filter whose `(` was read and whose `)` was not, with the filters in it so far
pub record Frame : Type 0 where
  pub connective : Connective
  pub filters : Filters

-- filters, and one more at their end
abbrev pub filters_with : Filters → Filter → Filters
filters_with none g = more g none
filters_with (more f fs) g = more f (filters_with fs g)

-- where a filter has just begun
abbrev pub opened_frame : Connective → Frame
opened_frame c = record { connective = c; filters = none }

-- an open list of filters with one more
abbrev pub frame_with : Filter → Frame → Frame
frame_with f o = record { connective = o.connective; filters = filters_with o.filters f }

-- the filter that `)` ends: of one filter at least, and of just one after `!`
abbrev pub connected : Connective → Filters → Option Filter
connected c none = None
connected And (more f fs) = Some (all (more f fs))
connected Or (more f fs) = Some (any (more f fs))
connected Not (more f none) = Some (negated f)
connected Not (more f (more g fs)) = None

-- one more filter may come
abbrev pub takes_another : Connective → Filters → Bool
takes_another And fs = true
takes_another Or fs = true
takes_another Not none = true
takes_another Not (more f fs) = false

-- the same, or the fault where there is none
abbrev pub connected_or_fault : Connective → Filters → Result Filter FilterFault
connected_or_fault c fs = ok_or (connected c fs) Syntax

-- where reading stands, in which frames, the innermost first: where a filter may come; after its `(`; in an item, with its
-- characters so far; or after the whole filter
pub data Point : Type 0 where
  Between : List Frame → Point
  Begun : List Frame → Point
  InItem : List Frame → List ℕ → Point
  After : Filter → Point

-- where reading stands after a filter
abbrev pub placed : Filter → List Frame → Point
placed f [] = After f
placed f (o ∷ frames) = Between (frame_with f o ∷ frames)

-- the fault of an item that has no `)`: its own, if it has one
abbrev pub broken : {A : Type 0} → List ℕ → Result A FilterFault
broken cs = read_then (λ i. Err Syntax) (item_in cs)

-- the item of what stands before a `)`, in which there is no `(`
abbrev pub whole_item : List ℕ → Result Item FilterFault
whole_item cs = if has left_parenthesis cs then broken (part_before left_parenthesis cs) else item_in cs

-- what is read where the text ends
abbrev pub read_end : Point → Result Filter FilterFault
read_end (Between frames) = Err Syntax
read_end (Begun frames) = Err Syntax
read_end (InItem frames cs) = broken cs
read_end (After f) = Ok f

-- the filter from a point of the text on, character by character
abbrev pub read_from : Point → List ℕ → Result Filter FilterFault
read_from p [] = read_end p
read_from (Between []) (c ∷ cs) =
    if is_white c then read_from (Between []) cs
    else (if c == left_parenthesis then read_from (Begun []) cs
    else Err Syntax)
read_from (Between (o ∷ frames)) (c ∷ cs) =
    if is_white c then read_from (Between (o ∷ frames)) cs
    else (if c == left_parenthesis then
    (if takes_another o.connective o.filters then
    (if nat_lt (length (o ∷ frames)) deepest then read_from (Begun (o ∷ frames)) cs else Err TooDeep)
    else Err Syntax)
    else (if c == right_parenthesis then read_then (λ f. read_from (placed f frames) cs)
    (connected_or_fault o.connective o.filters)
    else Err Syntax))
read_from (Begun frames) (c ∷ cs) =
    if c == ampersand then read_from (Between (opened_frame And ∷ frames)) cs
    else (if c == vertical_bar then read_from (Between (opened_frame Or ∷ frames)) cs
    else (if c == exclamation_mark then read_from (Between (opened_frame Not ∷ frames)) cs
    else (if c == left_parenthesis then Err Syntax
    else (if c == right_parenthesis then Err Syntax
    else read_from (InItem frames (c ∷ [])) cs))))
read_from (InItem frames before) (c ∷ cs) =
    if c == right_parenthesis then read_then (λ i. read_from (placed (item i) frames) cs) (item_in before)
    else (if c == left_parenthesis then broken before
    else read_from (InItem frames (before ++ c ∷ [])) cs)
read_from (After f) (c ∷ cs) = if is_white c then read_from (After f) cs else Err Syntax

-- the filter that a text is read as, or its first fault
abbrev pub filter_in : List ℕ → Result Filter FilterFault
filter_in text = read_from (Between []) (chars text)

-- the filter of a predicate, none where it is empty
abbrev pub predicate_in : List ℕ → Result (Option Filter) FilterFault
predicate_in text = if is_blank text then Ok None else read_map Some (filter_in text)
