-- What is joined of several attribute lists, as it lies.
use Rattle.std.specs.Prelude.{◌≡◌, ℕ, List, map, vec_items, T}
use Rattle.std.specs.FinMap as fin
use Rattle.std.specs.List.{AllByRecursion}
use Rattle.slp_text.specs.Words.{bytes_cmp}
use Rattle.attr_values.specs.declared.value.Value.{Value}
use Rattle.attr_values.specs.declared.value.Value.TheVariants as value
use Rattle.attr_list.specs.Elements.{Element}
use Rattle.attr_list.specs.Gathering.{common_value}
use Rattle.attr_list.specs.Lists.{Attributes, distinct_values, held_of, values_in}
use Rattle.attr_list.specs.Texts.{IsAttribute}
use Rattle.attr_list.specs.declared.held.Held.{Held}
use Rattle.attr_union.specs.declared.distinct.Identity.{Identity}
use Rattle.attr_union.specs.declared.distinct.Identity.TheVariants as identity
use Rattle.attr_union.specs.declared.gathering.Joined.{Joined}
use Rattle.attr_union.specs.declared.gathering.Piece.{Piece}

-- what a tag holds in one of the lists, as an element of a list
abbrev pub piece_element : Piece → Element
piece_element p = record { tag = p.tag.now; values = values_in p.held.now }

-- a tag with all its values, each once
abbrev pub joined_pair : Joined → List ℕ × Held
joined_pair j = (j.tag, held_of (distinct_values (vec_items j.values)))

abbrev pub union_of : List Joined → Attributes
union_of js = fin.from_sorted (map joined_pair js)

-- in key order, each tag once
pub record IsUnion (js : List Joined) : Type 0 where
  pub sorted : T (fin.is_sorted bytes_cmp (map joined_pair js))
  pub each : AllByRecursion (λ p. IsAttribute p.0 p.1) (map joined_pair js)

abbrev pub identity_value : Identity → Value
identity_value (identity.Bool b) = value.Bool b
identity_value (identity.Int n) = value.Int n
identity_value (identity.Opaque bytes) = value.Opaque bytes.now
identity_value (identity.Text t) = value.Text t

-- the identity says of which values this one is the same
abbrev pub IsIdentity : Identity → Value → Type 0
IsIdentity i v = identity_value i ≡ common_value v
