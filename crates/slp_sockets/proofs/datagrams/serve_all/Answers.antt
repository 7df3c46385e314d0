use Rattle.std.proofs.Common.{false, arith}
use Rattle.slp_sockets.specs.Exchanging.{datagrams}
use Rattle.slp_sockets.proofs.Exchanges.{met_more, same_later}
use Rattle.slp_sockets.proofs.datagrams.serve_all.Goals as goal

pub loop-exchange-preserved : goal.loop-exchange-preserved
loop-exchange-preserved g c =
    let l = c.loop-exchange in
    let x = c.exchange-item.result in
    let y = c.meet-is_late.new.self in record {
      same = same_later c.args.exchanges.now l.exchanges l.exchange-index x (omega arith) l.invariant.same y;
      met = met_more g.S.Serve.manner c.args.exchanges.now l.exchanges l.exchange-index x y (record { server = c.args.server.now; is_late = false }) (record { server = l.server; is_late = l.is_late }) (record { server = c.meet-is_late.new.server; is_late = c.meet-is_late.result }) (datagrams c.args.aside.now.items) (datagrams l.aside.items) (datagrams c.meet-is_late.new.aside.items)
          (omega arith) c.exchange-item.is l.invariant.same (rw (c.exchange-item.is) c.meet-is_late.ensures) l.invariant.met;
    }
