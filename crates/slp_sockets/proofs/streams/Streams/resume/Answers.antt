use Rattle.std.proofs.Common.{◌∙◌}
use Rattle.slp_sockets.proofs.Reaching.{resumes_next}
use Rattle.slp_sockets.proofs.streams.Streams.resume.Goals as goal
use Rattle.slp_sockets.proofs.streams.Streams.resume.Goals.{then-may_resume, else-may_resume}

pub loop-key-preserved : goal.loop-key-preserved
loop-key-preserved g c = elim c.if-may_resume.branch [
  | then-may_resume w ↦ rw (w.self-is, w.server-is) (record {
    limit = w.advance.ensures.limit ∙ c.loop-key.invariant.limit;
    served = resumes_next g.S.Serve.manner c.loop-key.key (record { seats = c.args.self.now.seats; server = c.args.server.now }) (record { seats = c.loop-key.self.seats; server = c.loop-key.server }) (record { seats = w.advance.new.self.seats; server = w.advance.new.server })
        c.loop-key.invariant.served w.advance.ensures.served;
  })
  | else-may_resume w ↦ rw (w.self-is, w.server-is) c.loop-key.invariant
]
