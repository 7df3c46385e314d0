use Rattle.attr_values.specs.Rests.{rest_of}
use Rattle.attr_list.proofs.ReadLists.{left}
use Rattle.template_files.specs.Reading.{values_in}
use Rattle.template_files.proofs.ListedValues.{AreSoFar}
use Rattle.template_files.proofs.values.read_values.Given as goal

-- what is there and what is still to come are the values
abbrev pub invariant-loop-rest : goal.invariant-loop-rest
invariant-loop-rest l = AreSoFar (values_in l.fn.text) l.values.items (rest_of l.rest)

abbrev pub decreases-loop-rest : goal.decreases-loop-rest
decreases-loop-rest l = left (rest_of l.rest)
