use Rattle.std.proofs.Common.{◌≡◌, map, take}
use Rattle.slp_sockets.specs.Exchanging.{datagrams}
use Rattle.slp_sockets.specs.Ports.{Came, Runs}
use Rattle.slp_sockets.proofs.datagrams.receive_all.Given as goal

abbrev pub invariant-loop-exchange : goal.invariant-loop-exchange
invariant-loop-exchange g l = record {
  count : l.count ≡ l.exchange-index;
  runs : Runs g.P.Port.may l.fn.port (map Came (datagrams (take l.exchange-index l.exchanges))) l.port;
}
