use Rattle.std.proofs.Common.{refl}
use Rattle.replay_program.specs.Reports.{AtFault}
use Rattle.replay_program.proofs.program.replay.Goals as goal

pub returns-in-Err-Line : goal.returns-in-Err-Line
returns-in-Err-Line g c =
    AtFault c.in-Err-Line.n (g.W.Write.contents c.run.new.writer) refl (rw c.in-Err-Line.field-0-is at c.in-Err-Line.ensures.gives) c.in_ok-writeln-in-Err-Line.ensures.bytes
