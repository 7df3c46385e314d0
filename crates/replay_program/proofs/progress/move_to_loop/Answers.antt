use Rattle.replay_program.proofs.CommandsDone.{Acts-loop}
use Rattle.replay_program.proofs.progress.move_to_loop.Goals as goal

pub returns-then-move_to_loop : goal.returns-then-move_to_loop
returns-then-move_to_loop c = Acts-loop c.args.session.now c.args.named c.move_to_loop.new.self c.if-move_to_loop.ensures
