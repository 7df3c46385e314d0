use Rattle.std.proofs.lemmas.Result.{err_from_is_err_and}
use Rattle.slp_fields.specs.Reading.{entries_at, rest_of_reading}
use Rattle.slp_fields.proofs.EntryLoops.{skips_on, skips_fail, skips_done}
use Rattle.slp_fields.proofs.skipping.skip_entries.Goals as goal

pub returns-in_err-rest : goal.returns-in_err-rest
returns-in_err-rest c =
    let p = err_from_is_err_and c.from_residual.result c.from_residual.ensures.1 in
    rw (p.1, p.2) (skips_fail c.in_err-rest.field-0.0 c.args.count c.loop.counter c.loop.rest.now (rest_of_reading (entries_at c.args.count c.args.bytes.now)) c.loop-test.true c.in_err-rest.ensures c.loop.invariant)

pub loop-preserved : goal.loop-preserved
loop-preserved c = skips_on c.args.count c.loop.counter c.loop.rest.now c.in_ok-rest.rest.now (rest_of_reading (entries_at c.args.count c.args.bytes.now)) c.loop-test.true c.in_ok-rest.ensures c.loop.invariant

pub returns : goal.returns
returns c = skips_done c.args.count c.loop.counter c.loop.rest.now (rest_of_reading (entries_at c.args.count c.args.bytes.now)) c.loop-test.false c.loop.invariant
