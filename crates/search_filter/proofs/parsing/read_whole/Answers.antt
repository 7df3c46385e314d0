use Rattle.std.proofs.Common.{◌∙◌, [], arith, chars, sym}
use Rattle.std.proofs.lemmas.Result.{err_from_is_err_and}
use Rattle.attr_list.proofs.CutTexts.{empty-chars, some-chars}
use Rattle.search_filter.specs.Trees.{filter_of}
use Rattle.search_filter.proofs.ParsedFilters.{whole-followed, whole-reads, whole-stops, whole-unopened}
use Rattle.search_filter.proofs.parsing.read_whole.Goals as goal

pub returns-in_default-clause-value : goal.returns-in_default-clause-value
returns-in_default-clause-value c = whole-unopened (chars c.args.text.now) c.in_default.ensures

pub returns-in_err-front-clause-value : goal.returns-in_err-front-clause-value
returns-in_err-front-clause-value c =
    let p = err_from_is_err_and c.from_residual.result c.from_residual.ensures.1 in
    rw (p.1, p.2) (whole-stops (chars c.args.text.now) (chars c.in-Some.inside.now) c.in_err-front.field-0.0 c.in-Some.ensures (c.in_err-front.ensures.front [] (omega arith)))

pub returns-then-is_empty-clause-value : goal.returns-then-is_empty-clause-value
returns-then-is_empty-clause-value c =
    whole-reads (chars c.args.text.now) (chars c.in-Some.inside.now) (chars c.in_ok-front.front.rest.now) (chars c.trim_start.result.now) (filter_of c.in_ok-front.front.tree) c.in-Some.ensures
    (c.in_ok-front.ensures.front [] (omega arith)).same c.trim_start.ensures (empty-chars c.trim_start.result.now c.trim_start.utf8 (sym c.is_empty.ensures ∙ c.if-is_empty.true))

pub returns-else-is_empty-clause-value : goal.returns-else-is_empty-clause-value
returns-else-is_empty-clause-value c =
    whole-followed (chars c.args.text.now) (chars c.in-Some.inside.now) (chars c.in_ok-front.front.rest.now) (chars c.trim_start.result.now) (filter_of c.in_ok-front.front.tree) c.in-Some.ensures
    (c.in_ok-front.ensures.front [] (omega arith)).same c.trim_start.ensures (some-chars c.trim_start.result.now c.trim_start.utf8 (sym c.is_empty.ensures ∙ c.if-is_empty.false))

pub returns-then-is_empty-clause-shallow : goal.returns-then-is_empty-clause-shallow
returns-then-is_empty-clause-shallow c = let d = (c.in_ok-front.ensures.front [] (omega arith)).depth in omega (arith, d)
