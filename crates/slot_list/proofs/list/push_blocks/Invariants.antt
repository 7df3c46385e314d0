use Rattle.std.proofs.Common.{◌*◌}
use Rattle.slot_list.specs.Blocks.{nth, IsPassed}
use Rattle.slot_list.proofs.list.push_blocks.Given as goal

abbrev pub invariant-loop-block : goal.invariant-loop-block
invariant-loop-block l = IsPassed (nth l.fn.numbers l.fn.turns) (nth l.numbers l.turns) (l.from * 256) (l.block * 256) l.x l.carried
