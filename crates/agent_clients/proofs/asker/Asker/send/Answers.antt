use Rattle.std.proofs.Common.{Ok, Err, refl}
use Rattle.agent_clients.specs.Asking.{Passed}
use Rattle.agent_clients.specs.Wires.{Sent, Tells, Does}
use Rattle.agent_clients.proofs.Courses.{goes_one, goes_two}
use Rattle.agent_clients.proofs.asker.Asker.send.Goals as goal

pub returns-in-Ok : goal.returns-in-Ok
returns-in-Ok g c =
    let after = c.tell.ensures in
    goes_two g.W.Wire.may Does _ _ _ _ (Tells c.args.self.now Passed) _ (Sent c.request.result.now (Ok c.in-Ok.field-0)) after.0 c.in-Ok.ensures (c.request.ensures, refl) after.1 after.2

pub returns-in-Err : goal.returns-in-Err
returns-in-Err g c = goes_one g.W.Wire.may Does _ _ _ _ (Sent c.request.result.now (Err c.in-Err.fault)) c.in-Err.ensures (c.request.ensures, refl)
