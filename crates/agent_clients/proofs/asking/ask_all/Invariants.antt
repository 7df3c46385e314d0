use Rattle.std.proofs.Common.{Ok}
use Rattle.agent_clients.specs.Runs.{Goes}
use Rattle.agent_clients.specs.Wires.{Starts, Acts, Does}
use Rattle.agent_clients.proofs.asking.ask_all.Given as goal

abbrev pub invariant-loop : goal.invariant-loop
invariant-loop g l = Goes g.W.Wire.may Does l.fn.wire (Starts l.fn.asker) l.wire (Acts l.asker (Ok l.step))
