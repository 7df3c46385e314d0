use Rattle.replay_program.proofs.CommandsDone.{Acts-tcp, MatchResult-more}
use Rattle.replay_program.proofs.progress.take_stream.Goals as goal

pub returns : goal.returns
returns g c =
    MatchResult-more c.take_piece.result _ _ _
    (λ _ done. (done.0, done.1, Acts-tcp c.args.session.now c.take_piece.new.session c.args.bytes done.0 (rw (← c.as_slice.ensures) done.2)))
    c.take_piece.ensures
