use Rattle.std.proofs.Common.{chars}
use Rattle.std.specs.List.{slice_split}
use Rattle.slp_text.specs.Reading.{read_all}
use Rattle.slp_text.specs.Lists.{is_comma}
use Rattle.attr_values.specs.Rests.{rest_of}
use Rattle.attr_values.specs.Values.{value_of}
use Rattle.attr_list.proofs.ReadLists.{left, AreValuesSoFar}
use Rattle.attr_list.proofs.reading.read_values.Given as goal

-- what is there and what is still to come are the values
abbrev pub invariant-loop-rest : goal.invariant-loop-rest
invariant-loop-rest l = AreValuesSoFar (read_all value_of (slice_split is_comma (chars l.fn.text))) l.values.items (rest_of l.rest)

abbrev pub decreases-loop-rest : goal.decreases-loop-rest
decreases-loop-rest l = left (rest_of l.rest)
