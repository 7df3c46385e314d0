-- The order in which the values of a tag are searched.
use Rattle.std.specs.Prelude.{ℕ, List, false, map, slice_index_or}
use Rattle.std.specs.List.Sorted.{IsPermutation, IsSorted}
use Rattle.attr_values.specs.Ranks.{value_cmp}
use Rattle.attr_values.specs.declared.value.Value.{Value}
use Rattle.attr_values.specs.declared.value.Value.TheVariants as value

-- the value at a place: false, where there is none
abbrev pub value_at : List Value → ℕ → Value
value_at vs place = slice_index_or vs place (value.Bool false)

-- the places of all values, the least value's first
pub record IsOrder (vs : List Value) (places : List ℕ) : Type 0 where
  pub each : IsPermutation vs (map (value_at vs) places)
  pub sorted : IsSorted value_cmp (map (value_at vs) places)
