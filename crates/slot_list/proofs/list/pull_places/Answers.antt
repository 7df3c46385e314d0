use Rattle.slot_list.proofs.Places.{in_one, in_two}
use Rattle.slot_list.proofs.list.pull_places.Goals as goal

pub returns-then-end-front : goal.returns-then-end-front
returns-then-end-front c =
    in_one c.args.turns.now c.args.from c.args.to c.spot-start.result c.spot-start.ensures.value c.requires.some c.requires.block c.if-end-front.true
    c.pull_run.new.numbers c.args.numbers.now c.pull_run.result c.args.x c.pull_run.ensures

pub returns-else-end-front : goal.returns-else-end-front
returns-else-end-front c =
    in_two c.args.turns.now c.args.from c.args.to c.spot-start.result c.spot-start.ensures.value c.requires.some c.requires.block c.if-end-front.false
    c.pull_run-else-end-front.new.numbers c.pull_run-carried.new.numbers c.args.numbers.now c.pull_run-else-end-front.result c.pull_run-carried.result c.args.x c.pull_run-else-end-front.ensures c.pull_run-carried.ensures
