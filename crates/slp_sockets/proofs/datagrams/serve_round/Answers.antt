use Rattle.std.proofs.Common.{refl, arith}
use Rattle.slp_sockets.specs.Exchanging.{all_dues, datagrams}
use Rattle.slp_sockets.proofs.Exchanges.{round}
use Rattle.slp_sockets.proofs.datagrams.serve_round.Goals as goal

pub returns : goal.returns
returns g c =
    let r = c.receive_all-count in
    round g.P.Port.may g.S.Serve.manner r.new.exchanges _ r.result.0 r.result.1 c.args.port.now r.new.port c.send_all.new.port c.args.server.now (record { server = c.serve_all.new.server; is_late = c.serve_all.ensures.0 }) c.settle-settled.new.server (all_dues c.serve_all.new.exchanges)
    (datagrams c.args.aside.now.items) (datagrams c.serve_all.new.aside.items) r.ensures.within (omega (arith, c.requires)) refl r.ensures.received (c.serve_all.ensures.1, c.serve_all.ensures.2, c.serve_all.ensures.3) c.settle-settled.ensures c.send_all.ensures
