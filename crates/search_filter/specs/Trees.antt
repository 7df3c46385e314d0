-- What a filter of the code stands for.
use Rattle.std.specs.Prelude.{◌≡◌, ℕ, ◌≤◌, ◌+◌, ◌<◌, Bool, List, [], ◌∷◌, length, map, chars, ◌==◌, Option, Result, Ok, Err, if◌then◌else◌}
use Rattle.attr_list.specs.Lists.{Attributes}
use Rattle.search_filter.specs.Filters.{Filter, Filters, all, any, negated, item, none, more, settled, turned, settled_each, turned_each, settled_holds, every_holds, some_holds, depth}
use Rattle.search_filter.specs.Outcomes.{IsFault}
use Rattle.search_filter.specs.Reading.{Begun, Between, Frame, InItem, Point, opened_frame, placed, read_from, deepest}
use Rattle.slp_text.specs.Ascii.{right_parenthesis}
use Rattle.slp_text.specs.Keys.{trim_start}
use Rattle.attr_values.specs.Rests.{rest_after}
use Rattle.search_filter.specs.declared.parsing.Connective.{Connective}
use Rattle.search_filter.specs.declared.fault.FilterFault.{FilterFault}
use Rattle.search_filter.specs.declared.tree.Tree.{Tree}
use Rattle.search_filter.specs.declared.tree.Tree.TheFolds.{fold-Tree}
use Rattle.search_filter.specs.declared.tree.Tree.TheOpen.{Tree-F}
use Rattle.search_filter.specs.declared.parsing.Front.{Front}

abbrev pub filters_of : List Filter → Filters
filters_of [] = none
filters_of (f ∷ fs) = more f (filters_of fs)

-- one level, with each filter inside already in its place
abbrev pub view_step : Tree-F Filter → Filter
view_step (Tree-F.All fs) = all (filters_of fs.items)
view_step (Tree-F.Any fs) = any (filters_of fs.items)
view_step (Tree-F.Not f) = negated f.value
view_step (Tree-F.Item i) = item i

abbrev pub filter_of : Tree → Filter
filter_of = fold-Tree Filter view_step

abbrev pub filters_in : List Tree → Filters
filters_in ts = filters_of (map filter_of ts)

-- a filter holds, or its negation
abbrev pub holds_as : Bool → Attributes → Filter → Bool
holds_as positive a f = if positive then settled_holds a (settled f) else settled_holds a (turned f)

-- What reading gives of a filter that begins at a point in frames frames: the same as what comes after it gives, once it is placed in them.
pub record IsFront (p : List Frame → Point) (cs : List ℕ) (frames : List Frame) (f : Front) : Type 0 where
  pub same : read_from (p frames) cs ≡ read_from (placed (filter_of f.tree) frames) (chars f.rest.now)
  pub depth : depth (filter_of f.tree) + length frames ≤ deepest

abbrev pub IsFrontReading : (List Frame → Point) → List ℕ → List Frame → Result Front FilterFault → Type 0
IsFrontReading p cs frames (Ok f) = IsFront p cs frames f
IsFrontReading p cs frames (Err e) = IsFault e (read_from (p frames) cs)

-- what is left is shorter
abbrev pub IsLeftOf : List ℕ → Front → Type 0
IsLeftOf cs f = length (chars f.rest.now) < length cs

-- all filters hold, or some, of them or of their negations
abbrev pub each_holds_as : Bool → Bool → Attributes → Filters → Bool
each_holds_as positive all_of a fs =
    if all_of then (if positive then every_holds a (settled_each fs) else every_holds a (turned_each fs))
    else (if positive then some_holds a (settled_each fs) else some_holds a (turned_each fs))

-- what comes after a `)` with which characters begin, after white space
abbrev pub closed_rest : List ℕ → Option (List ℕ)
closed_rest cs = rest_after (λ c. c == right_parenthesis) (trim_start cs)

-- after a `(` these begin a filter with others in it, which come in the rest
pub record IsConnected (cs : List ℕ) (c : Connective) (rest : List ℕ) : Type 0 where
  pub same : (frames : List Frame) → read_from (Begun frames) cs ≡ read_from (Between (opened_frame c ∷ frames)) rest
  pub shorter : length rest < length cs

-- after a `(` these begin an item
abbrev pub IsAlone : List ℕ → Type 0
IsAlone cs = (frames : List Frame) → read_from (Begun frames) cs ≡ read_from (InItem frames []) cs
