use Rattle.std.proofs.Common.{Ok, Err, refl}
use Rattle.agent_clients.specs.Wires.{Told, Does}
use Rattle.agent_clients.proofs.Courses.{goes_one}
use Rattle.agent_clients.proofs.asker.Asker.start.Goals as goal

pub returns-in-Ok : goal.returns-in-Ok
returns-in-Ok g c = goes_one g.W.Wire.may Does _ _ _ _ (Told (Ok c.in-Ok.now)) c.in-Ok.ensures (cc (c.start.ensures.step, c.start.ensures.state))

pub returns-in-Err : goal.returns-in-Err
returns-in-Err g c = goes_one g.W.Wire.may Does _ _ _ _ (Told (Err c.in-Err.fault)) c.in-Err.ensures refl
