use Rattle.replay_program.proofs.CommandsDone.{Acts-udp, MatchResult-more}
use Rattle.replay_program.proofs.progress.take_datagram.Goals as goal

pub returns : goal.returns
returns g c =
    MatchResult-more c.meet.result _ _ _
    (λ _ done. (done.0, done.1, Acts-udp c.args.session.now c.args.bytes done.0 c.meet.new.agent (rw (← c.as_slice.ensures) done.2)))
    c.meet.ensures
