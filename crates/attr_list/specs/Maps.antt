-- What is made of attributes: updated, without some tags, some of them, and joined.
use Rattle.std.specs.Prelude.{ℕ, Bool, not, List, [], ◌∷◌, ◌++◌, map, flat_map}
use Rattle.std.specs.FinMap as fin
use Rattle.slp_tags.specs.Tags.{Part, selects}
use Rattle.attr_list.specs.Elements.{Element}
use Rattle.attr_list.specs.Lists.{Attributes, attributes_of, values_in}
use Rattle.attr_list.specs.declared.held.Held.{Held}

-- attributes with these put in, one after the other
abbrev pub with_entries : Attributes → List (List ℕ × Held) → Attributes
with_entries a [] = a
with_entries a (p ∷ ps) = with_entries (fin.insert a p.0 p.1) ps

-- the tags of the other list as they are there, and the rest
abbrev pub updated_attributes : Attributes → Attributes → Attributes
updated_attributes a more = with_entries a (fin.entries more)

-- the tags that a list of tags does not select, and those that it does
abbrev pub attributes_without : Attributes → List Part → Attributes
attributes_without a tags = fin.retain_keys a (λ tag. not (selects tags tag))

-- the attributes whose tags a list of tags selects; an empty list selects all
abbrev pub selected_attributes : Attributes → List Part → Attributes
selected_attributes a tags = fin.retain_keys a (selects tags)

-- the tags that a test accepts
abbrev pub kept_attributes : Attributes → (List ℕ → Bool) → Attributes
kept_attributes a p = fin.retain_keys a p

-- attributes as elements of a list, in key order
abbrev pub elements_in : Attributes → List Element
elements_in a = map (λ p. record { tag = p.0; values = values_in p.1 }) (fin.entries a)

-- joined as the elements of one list are, these first
abbrev pub union_of : Attributes → Attributes → Attributes
union_of a more = attributes_of (elements_in a ++ elements_in more)

-- many joined so, in their order
unfoldable pub joined_attributes : List Attributes → Attributes
joined_attributes all = attributes_of (flat_map elements_in all)
