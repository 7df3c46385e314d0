-- The values that are gathered of each tag.
use Rattle.std.specs.Prelude.{ℕ, ◌++◌, List, [], map, Option, Some, unwrap_or, vec_items, if◌then◌else◌}
use Rattle.std.specs.BTreeMap as tree
use Rattle.std.specs.BTreeMap.{BTreeMap}
use Rattle.std.specs.Option.{option_map}
use Rattle.std.specs.declared.vec.Vec.{Vec}
use Rattle.slp_text.specs.Words.{bytes_cmp, bytes_eq}
use Rattle.attr_values.specs.declared.value.Value.{Value}
use Rattle.attr_list.specs.Elements.{Element}
use Rattle.attr_list.specs.Lists.{distinct_values, held_of}
use Rattle.attr_list.specs.declared.held.Held.{Held}

module _ {A : Type 0} where
  -- the values that were gathered of a tag, if it was named
  abbrev pub values_at : BTreeMap (List ℕ) (Vec Value A) → List ℕ → Option (List Value)
  values_at m tag = option_map vec_items (tree.get bytes_cmp m tag)

  -- what is held by each tag whose values were gathered
  abbrev pub pairs_of : BTreeMap (List ℕ) (Vec Value A) → List (List ℕ × Held)
  pairs_of m = map (λ p. (p.0, held_of (distinct_values (vec_items p.1)))) m.entries

-- the same with an element more
abbrev pub values_with : (List ℕ → Option (List Value)) → Element → List ℕ → Option (List Value)
values_with old e tag = if bytes_eq e.tag tag then Some (unwrap_or (old tag) [] ++ e.values) else old tag
