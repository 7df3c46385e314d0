use Rattle.std.proofs.Common.{◌≡◌, ◌≤◌, ℕ, List}
use Rattle.slab.specs.Slab.{slab_len}
use Rattle.slp_sockets.specs.Handing.{AreGiven, given_by}
use Rattle.slp_sockets.specs.Holding.{HasNoOther}
use Rattle.slp_sockets.specs.Sitting.{seats}
use Rattle.slp_sockets.proofs.lane.give_streams.Given as goal

abbrev pub invariant-loop-key : goal.invariant-loop-key
invariant-loop-key g l = record {
  server : l.server ≡ l.fn.server;
  len : slab_len l.peers ≤ slab_len l.fn.peers;
  capacity : l.peers.capacity ≡ l.fn.peers.capacity;
  only : HasNoOther (seats l.fn.peers) (seats l.peers);
  given : (keys : List ℕ) × AreGiven g.S.Serve.manner (record { seats = seats l.fn.peers; gifts = given_by l.fn.giver }) keys (record { seats = seats l.peers; gifts = given_by l.giver });
}
