use Rattle.std.proofs.Common.{◌++◌, ◌∷◌, [], codes}
use Rattle.slp_text.specs.Ascii.{line_feed}
use Rattle.replay_program.proofs.CommandsDone.{Acts-sweep}
use Rattle.replay_program.proofs.progress.sweep.Goals as goal

pub returns-in-Ok : goal.returns-in-Ok
returns-in-Ok g c = (codes "# sweep" ++ line_feed ∷ [], c.in-Ok.ensures.bytes, Acts-sweep c.args.session.now c.tidy.new.self c.tidy.ensures)
