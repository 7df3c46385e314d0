use Rattle.slot_list.proofs.Places.{in_one, in_two}
use Rattle.slot_list.proofs.list.push_places.Goals as goal

pub returns-then-end-front : goal.returns-then-end-front
returns-then-end-front c =
    in_one c.args.turns.now c.args.from c.args.to c.spot-start.result c.spot-start.ensures.value c.requires.some c.requires.block c.if-end-front.true
    c.args.numbers.now c.push_run.new.numbers c.args.x c.push_run.result c.push_run.ensures

pub returns-else-end-front : goal.returns-else-end-front
returns-else-end-front c =
    in_two c.args.turns.now c.args.from c.args.to c.spot-start.result c.spot-start.ensures.value c.requires.some c.requires.block c.if-end-front.false
    c.args.numbers.now c.push_run-carried.new.numbers c.push_run-else-end-front.new.numbers c.args.x c.push_run-carried.result c.push_run-else-end-front.result c.push_run-carried.ensures c.push_run-else-end-front.ensures
