use Rattle.std.proofs.Common.{◌≡◌, ◌+◌, ◌≤◌, List, ℕ, ◌++◌, length, vec_len}
use Rattle.slp_script.specs.Commands.{longest_line}
use Rattle.replay_program.specs.Reads.{StandsAfter, FeedGoesOn}
use Rattle.replay_program.proofs.line_input.feed.Given as goal

abbrev pub invariant-loop-front : goal.invariant-loop-front
invariant-loop-front g l = record {
  kept : vec_len l.line ≤ longest_line;
  counted : l.progress.number + length l.rest ≤ l.fn.progress.number + length l.piece;
  stood : (read out : List ℕ) → StandsAfter read out l.fn.line.items l.fn.progress
      → (done : List ℕ) × (l.piece ≡ done ++ l.rest) × FeedGoesOn (g.W.Write.contents l.initial.writer) (g.W.Write.contents l.writer) (read ++ done) out l.line.items l.progress;
}

abbrev pub decreases-loop-front : goal.decreases-loop-front
decreases-loop-front g l = length l.rest
