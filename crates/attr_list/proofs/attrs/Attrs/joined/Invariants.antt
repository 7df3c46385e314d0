use Rattle.std.proofs.Common.{◌≡◌, map, take}
use Rattle.std.specs.List.{AllByRecursion}
use Rattle.attr_list.specs.Pieces.{element_in, IsElement}
use Rattle.attr_list.specs.Stored.{selected_of_all}
use Rattle.attr_list.proofs.attrs.Attrs.joined.Given as goal

-- those of all so far
abbrev pub invariant-loop-attributes : goal.invariant-loop-attributes
invariant-loop-attributes l = record {
  elements : map element_in l.elements.items ≡ selected_of_all l.tags (map (λ p. p.now) (take l.attributes-index l.all));
  sound : AllByRecursion IsElement (map element_in l.elements.items);
}
