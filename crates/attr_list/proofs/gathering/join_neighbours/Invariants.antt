use Rattle.std.proofs.Common.{◌≡◌, [], map}
use Rattle.std.specs.Prelude.{fold}
use Rattle.attr_list.specs.Gathering.{joined_with}
use Rattle.attr_list.specs.Pieces.{element_in}
use Rattle.attr_list.proofs.gathering.join_neighbours.Given as goal

-- the same of those so far
abbrev pub invariant-loop-element : goal.invariant-loop-element
invariant-loop-element l = map element_in l.joined.items ≡ fold joined_with [] (map element_in l.yielded)
