use Rattle.std.proofs.Common.{◌≡◌}
use Rattle.slp_sockets.specs.Turning.{Resumes}
use Rattle.slp_sockets.proofs.streams.Streams.resume.Given as goal

abbrev pub invariant-loop-key : goal.invariant-loop-key
invariant-loop-key g l = record {
  limit : l.self.limit ≡ l.fn.self.limit;
  served : Resumes g.S.Serve.manner (record { seats = l.fn.self.seats; server = l.fn.server }) (record { seats = l.self.seats; server = l.server });
}
