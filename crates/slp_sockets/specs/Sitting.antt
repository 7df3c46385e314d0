-- The streams of a loop.
use Rattle.std.specs.Prelude.{List, Option, map}
use Rattle.std.specs.Option.{option_map}
use Rattle.slab.specs.Slab.{Slab}
use Rattle.slp_sockets.specs.Holding.{Seat}
use Rattle.slp_sockets.specs.declared.peer.Peer.{Peer}

abbrev pub seat : {T : Type 0} → Peer T → Seat
seat p = record { link = p.connection; moved = p.moved }

-- the stream with each key, where there is one
abbrev pub seats : {T : Type 0} → Slab (Peer T) → List (Option Seat)
seats peers = map (option_map seat) peers.slots
