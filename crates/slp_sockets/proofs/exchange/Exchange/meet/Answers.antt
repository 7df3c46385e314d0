use Rattle.std.proofs.Common.{refl}
use Rattle.slp_sockets.proofs.Exchanges.{met_aside}
use Rattle.slp_sockets.proofs.exchange.Exchange.meet.Goals as goal

pub returns-then-put_aside : goal.returns-then-put_aside
returns-then-put_aside g c =
    let p = c.if-put_aside.ensures.put refl in
    rw c.is_put_aside.ensures.kept
    (met_aside g.S.Serve.manner c.args.self.now c.put_aside.new.self (record { server = c.args.server.now; is_late = c.args.is_late }) c.args.aside.now.items c.put_aside.new.aside.items p.0 p.1 (c.if-is_put_aside.ensures.may refl))
