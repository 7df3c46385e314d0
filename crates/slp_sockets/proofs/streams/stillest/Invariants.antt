use Rattle.slp_sockets.specs.Sitting.{seats}
use Rattle.slp_sockets.proofs.Sitting.{Found}
use Rattle.slp_sockets.proofs.streams.stillest.Given as goal

abbrev pub invariant-loop-key : goal.invariant-loop-key
invariant-loop-key l = Found (seats l.fn.peers) l.key l.found
