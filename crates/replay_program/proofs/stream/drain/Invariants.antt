use Rattle.std.proofs.Common.{List, ℕ, length}
use Rattle.std.specs.Io.KnownBytes.{Appends}
use Rattle.replay_program.proofs.StreamMessages.{Drained}
use Rattle.replay_program.proofs.stream.drain.Given as goal

abbrev pub invariant-loop-next : goal.invariant-loop-next
invariant-loop-next g l = (ms : List (List ℕ)) × (said : List ℕ) × Appends (g.W.Write.contents l.initial.writer) (g.W.Write.contents l.writer) said × Drained l.fn.agent l.fn.stream ms said l.agent l.stream

abbrev pub decreases-loop-next : goal.decreases-loop-next
decreases-loop-next g l = length l.stream.waiting
