use Rattle.std.proofs.Common.{chars}
use Rattle.attr_values.specs.Rests.{rest_of}
use Rattle.attr_list.specs.Reading.{elements_of}
use Rattle.attr_list.proofs.ReadLists.{left, AreElementsSoFar}
use Rattle.attr_list.proofs.reading.read_elements.Given as goal

-- what is there and what is still to come are the elements
abbrev pub invariant-loop-rest : goal.invariant-loop-rest
invariant-loop-rest l = AreElementsSoFar (elements_of (chars l.fn.text)) l.elements.items (rest_of l.rest)

abbrev pub decreases-loop-rest : goal.decreases-loop-rest
decreases-loop-rest l = left (rest_of l.rest)
