use Rattle.std.proofs.Common.{ap, ◌∙◌}
use Rattle.slp_sockets.specs.Holding.{Seat}
use Rattle.slp_sockets.specs.Linking.{has_message}
use Rattle.slp_sockets.specs.Sitting.{seat}
use Rattle.slp_sockets.proofs.Handing.{kept_joins}
use Rattle.slp_sockets.proofs.streams.Streams.take_in.Goals as goal

pub returns-clause-joins : goal.returns-clause-joins
returns-clause-joins c = kept_joins (seat c.come.new.self) c.args.self.now.seats c.keep.new.self.seats (ap (λ (s : Seat). has_message s.link) c.come.ensures ∙ c.requires.front) c.keep.ensures.keeps
