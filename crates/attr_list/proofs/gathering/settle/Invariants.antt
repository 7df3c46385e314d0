use Rattle.std.proofs.Common.{◌≡◌, map}
use Rattle.attr_list.specs.Gathering.{pair_of}
use Rattle.attr_list.specs.Pieces.{element_in}
use Rattle.attr_list.specs.Stored.{pairs_in}
use Rattle.attr_list.proofs.gathering.settle.Given as goal

-- what each of those so far holds
abbrev pub invariant-loop-element : goal.invariant-loop-element
invariant-loop-element l = pairs_in l.settled.items ≡ map pair_of (map element_in l.yielded)
