use Rattle.std.proofs.lemmas.Result.{err_from_is_err_and}
use Rattle.slp_fields.specs.Reading.{rest_of_fields_at}
use Rattle.slp_fields.proofs.SkippedFields.{goes_on, ends, is_done}
use Rattle.slp_fields.proofs.skipping.skip_fields.Goals as goal

pub returns-in_err-rest : goal.returns-in_err-rest
returns-in_err-rest c =
    let p = err_from_is_err_and c.from_residual.result c.from_residual.ensures.1 in
    rw (p.1, p.2) (ends c.in_err-rest.field-0.0 c.args.kinds.now c.loop-kind.kind-index _ c.loop-kind.rest.now (rest_of_fields_at c.args.kinds.now c.args.bytes.now) c.loop-kind-test.true c.in_err-rest.ensures c.loop-kind.invariant)

pub loop-kind-preserved : goal.loop-kind-preserved
loop-kind-preserved c = goes_on c.args.kinds.now c.loop-kind.kind-index _ c.loop-kind.rest.now c.in_ok-rest.rest.now (rest_of_fields_at c.args.kinds.now c.args.bytes.now) c.loop-kind-test.true c.in_ok-rest.ensures c.loop-kind.invariant

pub returns : goal.returns
returns c = is_done c.args.kinds.now c.loop-kind.kind-index c.loop-kind.rest.now (rest_of_fields_at c.args.kinds.now c.args.bytes.now) c.loop-kind-test.false c.loop-kind.invariant
