use Rattle.std.proofs.Common.{◌≡◌}
use Rattle.slp_sockets.specs.Holding.{KeepsOthers, least_stay}
use Rattle.slp_sockets.specs.Turning.{ComeOrGo}
use Rattle.slp_sockets.proofs.streams.Streams.accept.Given as goal

abbrev pub invariant-loop : goal.invariant-loop
invariant-loop l = record {
  limit : l.self.limit ≡ l.fn.self.limit;
  moment : l.self.moment ≡ l.fn.self.moment;
  come : ComeOrGo l.fn.self.seats l.self.seats;
  kept : KeepsOthers least_stay l.fn.self.moment l.fn.self.seats l.self.seats;
}
