use Rattle.std.proofs.Common.{true, false, refl}
use Rattle.agent_clients.specs.Asking.{Passed, Broke}
use Rattle.agent_clients.specs.Wires.{Opened, Tells, Does}
use Rattle.agent_clients.proofs.Courses.{goes_two}
use Rattle.agent_clients.proofs.asker.Asker.open.Goals as goal

pub returns-then-open : goal.returns-then-open
returns-then-open g c =
    let after = c.tell.ensures in
    goes_two g.W.Wire.may Does _ _ _ _ (Tells (record c.args.self.now { is_open = true }) Passed) _ (Opened c.request.result.now true) after.0 c.if-open.ensures (c.request.ensures, refl) after.1 after.2

pub returns-else-open : goal.returns-else-open
returns-else-open g c =
    let after = c.tell-else-open.ensures in
    goes_two g.W.Wire.may Does _ _ _ _ (Tells c.args.self.now Broke) _ (Opened c.request.result.now false) after.0 c.if-open.ensures (c.request.ensures, refl) after.1 after.2
