use Rattle.std.proofs.Common.{◌*◌, ◌≤◌}
use Rattle.slot_list.specs.Blocks.{nth, IsPassed}
use Rattle.slot_list.proofs.list.pull_blocks.Given as goal

abbrev pub invariant-loop-block : goal.invariant-loop-block
invariant-loop-block l = record {
  low : l.from ≤ l.block;
  passed : IsPassed (nth l.numbers l.turns) (nth l.fn.numbers l.fn.turns) (l.block * 256) (l.to * 256) l.carried l.x;
}
