use Rattle.agent_clients.specs.Wires.{Does}
use Rattle.agent_clients.proofs.Courses.{goes_on}
use Rattle.agent_clients.proofs.asking.ask_all.Goals as goal

pub returns-in-Err : goal.returns-in-Err
returns-in-Err g c = goes_on g.W.Wire.may Does _ _ _ _ _ _ c.loop.invariant c.in-Err.ensures

pub loop-preserved : goal.loop-preserved
loop-preserved g c = goes_on g.W.Wire.may Does _ _ _ _ _ _ c.loop.invariant c.in-Ok.ensures
