use Rattle.std.proofs.Common.{ℕ, ◌+◌, ◌*◌, List, arith}
use Rattle.slot_list.specs.Blocks.{nth}
use Rattle.slot_list.proofs.Passes.{passed_on, pushed_block}
use Rattle.slot_list.proofs.list.push_blocks.Goals as goal

pub loop-block-preserved : goal.loop-block-preserved
loop-block-preserved c =
    let ns : List ℕ = c.loop-block.numbers in
    let ts : List ℕ = c.loop-block.turns in
    let b : ℕ = c.loop-block.block in
    passed_on _ (nth ns ts) _ (c.args.from * 256) (b * 256) ((b + 1) * 256) c.args.x c.loop-block.carried _ (omega arith) (omega arith) c.loop-block.invariant
    (pushed_block ns ts b ((b + 1) * 256) _ c.loop-block.carried (omega arith) (omega arith) (omega arith) (omega arith))
