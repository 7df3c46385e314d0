use Rattle.std.proofs.Common.{Ok, Err, refl, ◌∙◌}
use Rattle.slp_sockets.proofs.Served.{grown}
use Rattle.slp_sockets.proofs.connection.serve_one.Goals as goal

pub returns-in-Ok : goal.returns-in-Ok
returns-in-Ok g c = (
  c.serve.new.answer.bytes.items,
  record {
    outcome = Ok c.in-Ok.field-0;
    answer = c.serve.new.answer;
    step = c.in-Ok.ensures;
    given = refl;
  },
  rw c.as_slice.ensures.value at (grown c.extend_from_slice.result c.extend_from_slice.new.self.items c.args.output.now.items c.as_slice.result.now c.extend_from_slice.ensures.items),
)

pub returns-in-Err : goal.returns-in-Err
returns-in-Err g c = (
  c.as_slice-in-Err.result.now,
  record {
    outcome = Err c.in-Err.field-0;
    answer = c.serve.new.answer;
    step = c.in-Err.ensures;
    given = c.as_slice-in-Err.ensures ∙ c.refused_reply-reply.ensures;
  },
  grown c.extend_from_slice-in-Err.result c.extend_from_slice-in-Err.new.self.items c.args.output.now.items c.as_slice-in-Err.result.now c.extend_from_slice-in-Err.ensures.items,
)
