use Rattle.std.proofs.Common.{ap, chars}
use Rattle.std.specs.List.{slice_split}
use Rattle.std.proofs.lemmas.Result.{err_from_is_err_and}
use Rattle.slp_text.specs.Reading.{read_all}
use Rattle.slp_text.specs.Lists.{is_comma}
use Rattle.attr_values.specs.Rests.{rest_of}
use Rattle.attr_values.specs.Values.{value_of}
use Rattle.attr_list.proofs.ReadLists.{value-added, value-stops, values-less}
use Rattle.attr_list.proofs.reading.read_values.Goals as goal

pub returns-in_err-value-clause-value : goal.returns-in_err-value-clause-value
returns-in_err-value-clause-value c =
    let p = err_from_is_err_and c.from_residual.result c.from_residual.ensures.1 in
    rw (p.1, p.2) (value-stops (read_all value_of (slice_split is_comma (chars c.args.text.now))) c.loop-rest.values.items (rest_of c.loop-rest.rest) (rest_of c.cut_at.result.1) (chars c.in-Some.list.now)
    (chars c.cut_at.result.0.now) c.in_err-value.field-0.0 c.loop-rest.invariant (ap rest_of c.in-Some.is) c.cut_at.ensures.before c.cut_at.ensures.after c.in_err-value.ensures.value)

pub loop-rest-smaller : goal.loop-rest-smaller
loop-rest-smaller c = values-less (rest_of c.loop-rest.rest) (rest_of c.cut_at.result.1) (chars c.in-Some.list.now) (ap rest_of c.in-Some.is) c.cut_at.ensures.after

pub loop-rest-preserved : goal.loop-rest-preserved
loop-rest-preserved c =
    value-added (read_all value_of (slice_split is_comma (chars c.args.text.now))) c.loop-rest.values.items c.push.new.self.items (rest_of c.loop-rest.rest) (rest_of c.cut_at.result.1) (chars c.in-Some.list.now)
    (chars c.cut_at.result.0.now) c.in_ok-value.value c.loop-rest.invariant (ap rest_of c.in-Some.is) c.cut_at.ensures.before c.cut_at.ensures.after c.in_ok-value.ensures.value c.in_ok-value.ensures.kind c.in_ok-push.ensures.items
