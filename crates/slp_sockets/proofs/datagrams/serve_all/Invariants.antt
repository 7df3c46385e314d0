use Rattle.std.proofs.Common.{◌≡◌, false, take, drop}
use Rattle.slp_sockets.specs.Exchanging.{datagrams, all_dues}
use Rattle.slp_sockets.proofs.Exchanges.{Meets}
use Rattle.slp_sockets.proofs.datagrams.serve_all.Given as goal

abbrev pub invariant-loop-exchange : goal.invariant-loop-exchange
invariant-loop-exchange g l = record {
  same : drop l.exchange-index l.exchanges ≡ drop l.exchange-index l.fn.exchanges;
  met : Meets g.S.Serve.manner (record { server = l.fn.server; is_late = false }) (datagrams (take l.exchange-index l.fn.exchanges)) (all_dues (take l.exchange-index l.exchanges)) (datagrams l.fn.aside.items) (datagrams l.aside.items) (record { server = l.server; is_late = l.is_late });
}
