-- What a list of attributes keeps.
use Rattle.std.specs.Prelude.{ℕ, Bool, List, map, filter, flat_map, T}
use Rattle.slp_tags.specs.Tags.{Part, selects}
use Rattle.std.specs.FinMap as fin
use Rattle.std.specs.FinMap.{is_sorted}
use Rattle.std.specs.List.{AllByRecursion}
use Rattle.slp_text.specs.Words.{bytes_cmp}
use Rattle.attr_list.specs.Lists.{Attributes, values_in}
use Rattle.attr_list.specs.Elements.{Element}
use Rattle.attr_list.specs.Maps.{elements_in}
use Rattle.attr_list.specs.Texts.{IsAttribute}
use Rattle.attr_list.specs.declared.attrs.Attribute.{Attribute}
use Rattle.attr_list.specs.declared.held.Held.{Held}

-- a tag and what it holds
abbrev pub pair_in : Attribute → List ℕ × Held
pair_in a = (a.tag, a.held)

abbrev pub pairs_in : List Attribute → List (List ℕ × Held)
pairs_in = map pair_in

abbrev pub attributes_stored : List Attribute → Attributes
attributes_stored list = fin.from_sorted (pairs_in list)

-- in key order, each tag once
pub record AreStored (list : List Attribute) : Type 0 where
  pub sorted : T (is_sorted bytes_cmp (pairs_in list))
  pub each : AllByRecursion (λ a. IsAttribute a.tag a.held) list

-- the attributes whose tags a test accepts
abbrev pub kept_stored : (List ℕ → Bool) → List Attribute → List Attribute
kept_stored p list = filter (λ a. p a.tag) list

-- an attribute as an element of a list
abbrev pub element_stored : Attribute → Element
element_stored a = record { tag = a.tag; values = values_in a.held }

-- the elements whose tags a list of tags selects
abbrev pub selected_elements : List Part → List Element → List Element
selected_elements tags es = filter (λ e. selects tags e.tag) es

-- those of many attributes
abbrev pub selected_of_all : List Part → List Attributes → List Element
selected_of_all tags all = flat_map (λ a. selected_elements tags (elements_in a)) all
