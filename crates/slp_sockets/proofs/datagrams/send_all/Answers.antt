use Rattle.std.proofs.Common.{arith}
use Rattle.slp_sockets.proofs.Exchanges.{sent_more}
use Rattle.slp_sockets.proofs.datagrams.send_all.Goals as goal

pub loop-exchange-preserved : goal.loop-exchange-preserved
loop-exchange-preserved g c =
    sent_more g.P.Port.may c.args.exchanges.now c.loop-exchange.exchange-index (omega arith) c.exchange-item.result c.args.port.now c.loop-exchange.port c.send.new.port c.exchange-item.is c.loop-exchange.invariant c.send.ensures
