use Rattle.std.proofs.Common.{sym}
use Rattle.slp_sockets.proofs.Advancing.{advanced}
use Rattle.slp_sockets.proofs.streams.advance_at.Goals as goal

pub returns-in-Some-clause-served : goal.returns-in-Some-clause-served
returns-in-Some-clause-served g c =
    advanced g.S.Serve.manner c.args.peers.now c.args.key c.in-Some.peer.now c.go_on.new.self (sym c.in-Some.ensures.value) c.args.now c.args.server.now c.go_on.new.server c.go_on.result c.go_on.ensures
