use Rattle.std.proofs.Common.{◌≡◌, ◌++◌, filter, map, take}
use Rattle.slp_tags.specs.Tags.{selects}
use Rattle.attr_list.specs.Pieces.{element_in}
use Rattle.attr_list.specs.Stored.{element_stored}
use Rattle.attr_list.proofs.combining.append_selected.Given as goal

-- those so far
abbrev pub invariant-loop-entry : goal.invariant-loop-entry
invariant-loop-entry l = map element_in l.elements.items ≡ map element_in l.initial.elements.items ++ map element_stored (filter (λ a. selects l.tags a.tag) (take l.entry-index l.entry-items))
