use Rattle.std.proofs.Common.{ap, chars, sym, ◌∙◌, arith}
use Rattle.std.proofs.lemmas.Result.{err_from_is_err_and}
use Rattle.attr_values.specs.Rests.{rest_of}
use Rattle.search_filter.specs.Filters.{depth}
use Rattle.search_filter.specs.Reading.{placed, read_from}
use Rattle.search_filter.proofs.ParsedItems.{alone-read, alone-shorter, alone-stops, alone-unclosed}
use Rattle.search_filter.proofs.parsing.read_alone.Goals as goal

pub returns-in_err-item-in-Some-clause-front : goal.returns-in_err-item-in-Some-clause-front
returns-in_err-item-in-Some-clause-front c = λ outer shallow.
    let p = err_from_is_err_and c.from_residual.result c.from_residual.ensures.1 in
    rw (p.1, p.2) (alone-stops outer (chars c.args.text.now) (chars c.cut_at.result.0.now) (chars c.in-Some.rest.now) c.in_err-item-in-Some.field-0.0 c.cut_at.ensures.before
    (ap rest_of (sym c.in-Some.is) ∙ c.cut_at.ensures.after) c.in_err-item-in-Some.ensures)

pub returns-in_ok-item-in-Some-clause-front : goal.returns-in_ok-item-in-Some-clause-front
returns-in_ok-item-in-Some-clause-front c = λ outer shallow. record {
  same = alone-read outer (chars c.args.text.now) (chars c.cut_at.result.0.now) (chars c.in-Some.rest.now) c.in_ok-item-in-Some.item c.cut_at.ensures.before
      (ap rest_of (sym c.in-Some.is) ∙ c.cut_at.ensures.after) c.in_ok-item-in-Some.ensures
      ∙ ap (λ f. read_from (placed f outer) (chars c.in-Some.rest.now)) (sym c.item_of.ensures);
  depth = let d = ap depth c.item_of.ensures in omega (arith, shallow, d);
}

pub returns-in_ok-item-in-Some-clause-shorter : goal.returns-in_ok-item-in-Some-clause-shorter
returns-in_ok-item-in-Some-clause-shorter c = alone-shorter (chars c.args.text.now) (chars c.in-Some.rest.now) (ap rest_of (sym c.in-Some.is) ∙ c.cut_at.ensures.after)

pub returns-in-None-clause-front : goal.returns-in-None-clause-front
returns-in-None-clause-front c = λ outer shallow.
    alone-unclosed outer (chars c.args.text.now) (chars c.cut_at.result.0.now) c.unclosed.result c.cut_at.ensures.before (ap rest_of (sym c.in-None.is) ∙ c.cut_at.ensures.after) c.unclosed.ensures
