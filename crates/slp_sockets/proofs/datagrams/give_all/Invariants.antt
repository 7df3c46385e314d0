use Rattle.std.proofs.Common.{◌≡◌, List, length}
use Rattle.slp_sockets.specs.Exchanging.{datagrams}
use Rattle.slp_sockets.specs.Handing.{AreMailed, given_by}
use Rattle.slp_sockets.specs.Ports.{Datagram}
use Rattle.slp_sockets.proofs.datagrams.give_all.Given as goal

abbrev pub invariant-loop : goal.invariant-loop
invariant-loop g l = record {
  server : l.server ≡ l.fn.server;
  given : (ds : List Datagram) × AreMailed g.S.Serve.manner (datagrams l.fn.aside.items) (given_by l.fn.giver) ds (given_by l.giver) (datagrams l.aside.items);
}

abbrev pub decreases-loop : goal.decreases-loop
decreases-loop g l = length l.aside.items
