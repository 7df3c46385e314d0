use Rattle.std.proofs.Common.{◌*◌, ◌≤◌, List, ℕ, vec_len}
use Rattle.std.specs.Io.KnownBytes.{Appends, Consumes}
use Rattle.slp_script.specs.Commands.{longest_line}
use Rattle.replay_program.specs.Reads.{StandsAfter}
use Rattle.replay_program.proofs.replay.run_through.Given as goal

abbrev pub invariant-loop-turn : goal.invariant-loop-turn
invariant-loop-turn g l = record {
  kept : vec_len l.line ≤ longest_line;
  counted : l.progress.number ≤ l.turn * 65536;
  stood : (read out : List ℕ) × Consumes (g.R.Read.remaining l.initial.reader) (g.R.Read.remaining l.reader) read × Appends (g.W.Write.contents l.initial.writer) (g.W.Write.contents l.writer) out × StandsAfter read out l.line.items l.progress;
}
