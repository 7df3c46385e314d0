use Rattle.std.proofs.Common.{◌≡◌}
use Rattle.slp_sockets.specs.Handing.{Joins, TakesOver, taken_by}
use Rattle.slp_sockets.proofs.lane.take_all.Given as goal

abbrev pub invariant-loop : goal.invariant-loop
invariant-loop l = record {
  limit : l.streams.limit ≡ l.fn.streams.limit;
  joins : Joins l.fn.streams.seats l.streams.seats;
  taken : TakesOver l.fn.datagrams.aside (taken_by l.fn.taker) l.datagrams.aside (taken_by l.taker);
}
