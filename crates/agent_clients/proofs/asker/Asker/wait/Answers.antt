use Rattle.std.proofs.Common.{Ok, Err, refl, sym, subst}
use Rattle.agent_clients.specs.Asking.{Broke}
use Rattle.agent_clients.specs.Wires.{Acts, Read, Tells, Waited, Does, after_reading, after_waiting, received}
use Rattle.agent_clients.proofs.Courses.{goes_one, goes_two}
use Rattle.agent_clients.proofs.asker.Asker.wait.Goals as goal

pub returns-in-Ok-Some : goal.returns-in-Ok-Some
returns-in-Ok-Some g c =
    let after = c.take_now.ensures in
    goes_two g.W.Wire.may Does _ _ _ _ (after_reading c.args.self.now (received (Ok c.in-Ok-Some.field-0) c.read.new.buffer)) _ (Read c.args.moment (received (Ok c.in-Ok-Some.field-0) c.read.new.buffer)) after.0 c.in-Ok-Some.ensures.waited (c.if-self.true, refl, refl) after.1
    (subst (λ o. Does (after_reading c.args.self.now (received (Ok o) c.read.new.buffer)) after.0 (Acts c.take_now.new.self c.take_now.result)) (sym c.in-Ok-Some.field-0-is) after.2)

pub returns-in-Ok-None : goal.returns-in-Ok-None
returns-in-Ok-None g c =
    let after = c.tell.ensures in
    goes_two g.W.Wire.may Does _ _ _ _ (after_reading c.args.self.now (received (Ok c.in-Ok-None.field-0) c.read.new.buffer)) _ (Read c.args.moment (received (Ok c.in-Ok-None.field-0) c.read.new.buffer)) after.0 c.in-Ok-None.ensures.waited (c.if-self.true, refl, refl) after.1
    (subst (λ o. Does (after_reading c.args.self.now (received (Ok o) c.read.new.buffer)) after.0 (Acts c.tell.new.self c.tell.result)) (sym c.in-Ok-None.field-0-is) after.2)

pub returns-in-Err : goal.returns-in-Err
returns-in-Err g c =
    let after = c.tell-in-Err.ensures in
    goes_two g.W.Wire.may Does _ _ _ _ (Tells c.args.self.now Broke) _ (Read c.args.moment (Err c.in-Err.field-0)) after.0 c.in-Err.ensures.waited (c.if-self.true, refl, refl) after.1 after.2

pub returns-in-Ok-Some-receive : goal.returns-in-Ok-Some-receive
returns-in-Ok-Some-receive g c =
    let after = c.tell-in-Ok-Some-receive.ensures in
    goes_two g.W.Wire.may Does _ _ _ _ (after_waiting c.args.self.now (received (Ok c.in-Ok-Some-receive.field-0) c.receive.new.buffer)) _ (Waited c.args.moment (received (Ok c.in-Ok-Some-receive.field-0) c.receive.new.buffer)) after.0 c.in-Ok-Some-receive.ensures.waited (c.if-self.false, refl, refl) after.1
    (subst (λ o. Does (after_waiting c.args.self.now (received (Ok o) c.receive.new.buffer)) after.0 (Acts c.tell-in-Ok-Some-receive.new.self c.tell-in-Ok-Some-receive.result)) (sym c.in-Ok-Some-receive.field-0-is) after.2)

pub returns-in-Ok-None-receive : goal.returns-in-Ok-None-receive
returns-in-Ok-None-receive g c =
    let after = c.tell-in-Ok-None-receive.ensures in
    goes_two g.W.Wire.may Does _ _ _ _ (after_waiting c.args.self.now (received (Ok c.in-Ok-None-receive.field-0) c.receive.new.buffer)) _ (Waited c.args.moment (received (Ok c.in-Ok-None-receive.field-0) c.receive.new.buffer)) after.0 c.in-Ok-None-receive.ensures.waited (c.if-self.false, refl, refl) after.1
    (subst (λ o. Does (after_waiting c.args.self.now (received (Ok o) c.receive.new.buffer)) after.0 (Acts c.tell-in-Ok-None-receive.new.self c.tell-in-Ok-None-receive.result)) (sym c.in-Ok-None-receive.field-0-is) after.2)

pub returns-in-Err-receive : goal.returns-in-Err-receive
returns-in-Err-receive g c = goes_one g.W.Wire.may Does _ _ _ _ (Waited c.args.moment (Err c.in-Err-receive.fault)) c.in-Err-receive.ensures.waited (c.if-self.false, refl, refl)
