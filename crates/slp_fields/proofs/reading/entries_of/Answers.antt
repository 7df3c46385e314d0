use Rattle.std.proofs.lemmas.Result.{err_from_is_err_and}
use Rattle.slp_fields.specs.Reading.{entries_at}
use Rattle.slp_fields.proofs.EntryLoops.{goes_on, ends, is_done}
use Rattle.slp_fields.proofs.reading.entries_of.Goals as goal

pub returns-in_err-entry : goal.returns-in_err-entry
returns-in_err-entry c =
    let p = err_from_is_err_and c.from_residual.result c.from_residual.ensures.1 in
    rw (p.1, p.2) (ends c.in_err-entry.field-0.0 c.loop.entries.items c.args.count c.loop.counter c.loop.rest.now (entries_at c.args.count c.args.bytes.now) c.loop-test.true c.in_err-entry.ensures c.loop.invariant)

pub loop-preserved : goal.loop-preserved
loop-preserved c =
    rw c.in_ok-push.ensures.items (goes_on c.loop.entries.items c.args.count c.loop.counter c.loop.rest.now c.in_ok-entry.entry c.in_ok-entry.after.now (entries_at c.args.count c.args.bytes.now) c.loop-test.true c.in_ok-entry.ensures c.loop.invariant)

pub returns : goal.returns
returns c = is_done c.loop.entries.items c.args.count c.loop.counter c.loop.rest.now (entries_at c.args.count c.args.bytes.now) c.loop-test.false c.loop.invariant
