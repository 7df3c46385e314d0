use Rattle.slp_sockets.proofs.exchange.Exchange.serve.Goals as goal
use Rattle.slp_sockets.proofs.exchange.Exchange.serve.Goals.{in-Ok, in-Err}

pub returns-clause-served : goal.returns-clause-served
returns-clause-served g c =
    rw (← c.in-Some.ensures) (record {
      outcome = c.serve.result;
      answer = c.serve.new.answer;
      step = rw c.deref.ensures.value at c.serve.ensures;
      given = elim c.match-serve.branch [ in-Ok w ↦ rw (w.in-Ok.is, w.self-is) | in-Err w ↦ rw (w.in-Err.is, w.self-is) ];
    })
