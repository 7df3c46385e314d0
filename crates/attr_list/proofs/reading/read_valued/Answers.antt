use Rattle.std.proofs.Common.{ap, chars}
use Rattle.std.proofs.lemmas.Result.{err_from_is_err_and}
use Rattle.attr_values.specs.Rests.{rest_of}
use Rattle.attr_list.proofs.ReadValues.{values-fault, values-is, values-shorter, values-unclosed, values-unended}
use Rattle.attr_list.proofs.reading.read_valued.Goals as goal

pub returns-in_err-values-clause-value : goal.returns-in_err-values-clause-value
returns-in_err-values-clause-value c =
    let p = err_from_is_err_and c.from_residual.result c.from_residual.ensures.1 in
    rw (p.1, p.2) (values-fault c.args.tag (chars c.args.list.now) (chars c.cut_at.result.0.now) (rest_of c.cut_at.result.1) c.in_err-values.field-0.0 c.cut_at.ensures.before c.cut_at.ensures.after c.in_err-values.ensures.value)

pub returns-in_default-clause-value : goal.returns-in_default-clause-value
returns-in_default-clause-value c =
    values-unclosed c.args.tag (chars c.args.list.now) (chars c.cut_at.result.0.now) (rest_of c.cut_at.result.1) c.in_ok-values.values.items c.cut_at.ensures.before c.cut_at.ensures.after
    (ap rest_of c.in_default.is) c.in_ok-values.ensures.value

pub returns-in_err-rest-clause-value : goal.returns-in_err-rest-clause-value
returns-in_err-rest-clause-value c =
    let p = err_from_is_err_and c.from_residual-in_err-rest.result c.from_residual-in_err-rest.ensures.1 in
    rw (p.1, p.2) (values-unended c.args.tag (chars c.args.list.now) (chars c.cut_at.result.0.now) (rest_of c.cut_at.result.1) (chars c.in-Some.after.now) c.in_ok-values.values.items c.in_err-rest.field-0.0
    c.cut_at.ensures.before c.cut_at.ensures.after (ap rest_of c.in-Some.is) c.in_ok-values.ensures.value c.in_err-rest.ensures)

pub returns-clause-value : goal.returns-clause-value
returns-clause-value c =
    values-is c.args.tag (chars c.args.list.now) (chars c.cut_at.result.0.now) (rest_of c.cut_at.result.1) (chars c.in-Some.after.now) c.in_ok-values.values.items (rest_of c.in_ok-rest.rest)
    c.cut_at.ensures.before c.cut_at.ensures.after (ap rest_of c.in-Some.is) c.in_ok-values.ensures.value c.in_ok-rest.ensures

pub returns-clause-shorter : goal.returns-clause-shorter
returns-clause-shorter c =
    values-shorter (chars c.args.list.now) (rest_of c.cut_at.result.1) (chars c.in-Some.after.now) (rest_of c.in_ok-rest.rest) c.cut_at.ensures.after (ap rest_of c.in-Some.is) c.in_ok-rest.ensures
