use Rattle.std.proofs.Common.{ℕ, ◌-◌, ◌*◌, List, arith}
use Rattle.slot_list.specs.Blocks.{nth}
use Rattle.slot_list.proofs.Passes.{passed_on, pulled_block}
use Rattle.slot_list.proofs.list.pull_blocks.Goals as goal

pub loop-block-preserved : goal.loop-block-preserved
loop-block-preserved c =
    let ns : List ℕ = c.loop-block.numbers in
    let ts : List ℕ = c.loop-block.turns in
    let b : ℕ = c.loop-block.block - 1 in
    record {
      low = omega arith;
      passed = passed_on _ (nth ns ts) _ (b * 256) (c.loop-block.block * 256) (c.args.to * 256) _ c.loop-block.carried c.args.x (omega arith) (omega arith)
          (pulled_block ns ts b (c.loop-block.block * 256) _ c.loop-block.carried (omega arith) (omega arith) (omega arith) (omega arith)) c.loop-block.invariant.passed;
    }
