-- How elements are gathered by their tags.
use Rattle.std.specs.Prelude.{◌≡◌, ◌<◌, ℕ, ◌++◌, ◌∷◌, Bool, true, not, List, [], Option, Some, None, length, map, slice_index_or, take, vec_items, if◌then◌else◌}
use Rattle.std.specs.List.{list_any, range_with_len, AllByRecursion}
use Rattle.std.specs.List.Sorted.{IsPermutation, IsSorted}
use Rattle.std.specs.declared.cmp.Ordering.{Ordering}
use Rattle.slp_text.specs.Keys.{key_of}
use Rattle.slp_text.specs.Words.{bytes_eq}
use Rattle.attr_values.specs.Ranks.{value_cmp}
use Rattle.attr_values.specs.declared.value.Value.{Value}
use Rattle.attr_values.specs.declared.value.Value.TheVariants as value
use Rattle.attr_list.specs.Elements.{Element}
use Rattle.attr_list.specs.Orders.{value_at}
use Rattle.attr_list.specs.declared.order.Ranked.{Ranked}
use Rattle.attr_list.specs.Lists.{distinct_values, held_of, is_same, values_named}
use Rattle.attr_list.specs.declared.distinct.Identity.{Identity}
use Rattle.attr_list.specs.declared.distinct.Identity.TheVariants as identity
use Rattle.attr_list.specs.declared.held.Held.{Held}

-- what values that are the same have in common: of a text its key
abbrev pub common_value : Value → Value
common_value (value.Bool b) = value.Bool b
common_value (value.Int n) = value.Int n
common_value (value.Opaque bytes) = value.Opaque bytes
common_value (value.Text t) = value.Text (key_of t)

abbrev pub identity_value : Identity → Value
identity_value (identity.Bool b) = value.Bool b
identity_value (identity.Int n) = value.Int n
identity_value (identity.Opaque bytes) = value.Opaque (vec_items bytes)
identity_value (identity.Text t) = value.Text t

-- the identity says of which values this one is the same
abbrev pub IsIdentity : Identity → Value → Type 0
IsIdentity i v = identity_value i ≡ common_value v

-- each is of the value at its place
abbrev pub AreRanked : List Value → List Ranked → Type 0
AreRanked vs = AllByRecursion (λ r. IsIdentity r.identity (value_at vs r.place))

-- the order of places: by their values
abbrev pub place_cmp : List Value → ℕ → ℕ → Ordering
place_cmp vs p q = value_cmp (value_at vs p) (value_at vs q)

-- each value has one, and they go by that order
pub record AreInOrder (vs : List Value) (rs : List Ranked) : Type 0 where
  pub ranked : AreRanked vs rs
  pub each : IsPermutation (range_with_len 0 (length vs)) (map (λ r. r.place) rs)
  pub sorted : IsSorted (place_cmp vs) (map (λ r. r.place) rs)

-- of each place, whether no earlier value is the same
pub record AreFirsts (vs : List Value) (firsts : List Bool) : Type 0 where
  pub count : length firsts ≡ length vs
  pub told : (p : ℕ) → p < length vs → slice_index_or firsts p true ≡ not (list_any (λ v. is_same v (value_at vs p)) (take p vs))

-- of each place, how many values before it are not the same as an earlier one
pub record AreNewPlaces (vs : List Value) (places : List ℕ) : Type 0 where
  pub count : length places ≡ length vs
  pub told : (p : ℕ) → p < length vs → slice_index_or places p 0 ≡ length (distinct_values (take p vs))

-- elements with one more, whose values are added to those of the last, where both have one tag
abbrev pub joined_with : List Element → Element → List Element
joined_with [] e = e ∷ []
joined_with (last ∷ []) e = if bytes_eq last.tag e.tag then record { tag = last.tag; values = last.values ++ e.values } ∷ [] else last ∷ e ∷ []
joined_with (e₀ ∷ e₁ ∷ es) e = e₀ ∷ joined_with (e₁ ∷ es) e

-- a tag, and what it holds of which these are all values
abbrev pub pair_of : Element → List ℕ × Held
pair_of e = (e.tag, held_of (distinct_values e.values))

-- all values that elements give a tag, if one names it
abbrev pub gathered_values : List Element → List ℕ → Option (List Value)
gathered_values es tag = if list_any (λ e. bytes_eq e.tag tag) es then Some (values_named tag es) else None
