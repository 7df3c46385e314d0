use Rattle.std.proofs.Common.{refl}
use Rattle.replay_program.proofs.ScriptReads.{StandsAfter-begin}
use Rattle.replay_program.proofs.progress.Progress.begin.Goals as goal

pub returns : goal.returns
returns c = StandsAfter-begin _ refl refl c.in_ok-open.ensures
