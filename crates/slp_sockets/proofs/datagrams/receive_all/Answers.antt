use Rattle.std.proofs.Common.{arith}
use Rattle.slp_sockets.proofs.Exchanges.{received_more, received_stop}
use Rattle.slp_sockets.proofs.datagrams.receive_all.Goals as goal

pub loop-exchange-preserved : goal.loop-exchange-preserved
loop-exchange-preserved g c = record {
  count = omega (arith, c.loop-exchange.invariant.count);
  runs = received_more g.P.Port.may c.loop-exchange.exchanges c.loop-exchange.exchange-index (omega arith) c.receive.new.self c.args.port.now c.loop-exchange.port c.receive.new.port c.loop-exchange.invariant.runs c.in_default.ensures;
}

pub returns-in-Err-clause-received : goal.returns-in-Err-clause-received
returns-in-Err-clause-received g c =
    received_stop g.P.Port.may c.loop-exchange.exchanges c.loop-exchange.exchange-index (omega arith) c.loop-exchange.count c.receive.new.self _ c.rest_after.result c.args.port.now c.loop-exchange.port c.receive.new.port c.loop-exchange.invariant.count
    c.rest_after.ensures c.loop-exchange.invariant.runs c.in-Err.ensures
