use Rattle.slp_sockets.proofs.Reaching.{received_again}
use Rattle.slp_sockets.proofs.agent_loop.serve_stream.Goals as goal

pub returns-in_err-serve_between-clause-served : goal.returns-in_err-serve_between-clause-served
returns-in_err-serve_between-clause-served g c = (
  record { seats = c.advance-told.new.self.seats; server = c.advance-told.new.server },
  c.advance-told.ensures.served,
  received_again g.S.Serve.manner c.advance-told.new.self.seats c.advance-told.new.server c.serve_between.new.server c.serve_between.ensures.served,
)

pub returns-clause-served : goal.returns-clause-served
returns-clause-served g c = (
  record { seats = c.advance-told.new.self.seats; server = c.advance-told.new.server },
  c.advance-told.ensures.served,
  received_again g.S.Serve.manner c.advance-told.new.self.seats c.advance-told.new.server c.serve_between.new.server c.serve_between.ensures.served,
)
