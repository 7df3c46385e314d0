use Rattle.std.proofs.Common.{map, take}
use Rattle.slp_sockets.specs.Ports.{Left, Runs}
use Rattle.slp_sockets.specs.Exchanging.{all_dues}
use Rattle.slp_sockets.proofs.datagrams.send_all.Given as goal

abbrev pub invariant-loop-exchange : goal.invariant-loop-exchange
invariant-loop-exchange g l = Runs g.P.Port.may l.fn.port (map Left (all_dues (take l.exchange-index l.exchanges))) l.port
