use Rattle.std.proofs.Common.{◌≡◌, ◌≤◌, ◌<◌, ◌+◌, ℕ, Some}
use Rattle.slab.specs.Slab.{slab_len}
use Rattle.slp_sockets.specs.Holding.{HasNoOther, KeepsOthers, longest_stay, moment_of}
use Rattle.slp_sockets.specs.Sitting.{seats}
use Rattle.slp_sockets.proofs.streams.close_all_still.Given as goal

abbrev pub invariant-loop-key : goal.invariant-loop-key
invariant-loop-key l = record {
  passed : (key at : ℕ) → key < l.key → moment_of (seats l.peers) key ≡ Some at → l.now < at + longest_stay;
  kept : KeepsOthers longest_stay l.now (seats l.fn.peers) (seats l.peers);
  only : HasNoOther (seats l.fn.peers) (seats l.peers);
  len : slab_len l.peers ≤ slab_len l.fn.peers;
  capacity : l.peers.capacity ≡ l.fn.peers.capacity;
}
