use Rattle.std.proofs.Common.{map, sym, ◌∙◌}
use Rattle.toml.specs.View.{view}
use Rattle.site_check.specs.RuleFaults.{has_name}
use Rattle.site_check.proofs.Written.{found_at, found_later, found_nowhere, mapped_at, mapped_past, mapped_within}
use Rattle.site_check.proofs.rule_faults.number_named.Goals as goal

pub returns-then-has_name : goal.returns-then-has_name
returns-then-has_name c =
    let found = c.loop-i.invariant ∙ found_at (has_name c.args.name.now) c.args.first (map view c.args.values.now) c.loop-i.i (view c.index-values-i.result) (mapped_within view c.args.values.now c.loop-i.i c.loop-i-test.true) (mapped_at view c.args.values.now c.loop-i.i c.index-values-i.result c.loop-i-test.true c.index-values-i.is) (sym c.has_name.ensures ∙ c.if-has_name.true) in
    rw found

pub loop-i-preserved : goal.loop-i-preserved
loop-i-preserved c =
    c.loop-i.invariant ∙ found_later (has_name c.args.name.now) c.args.first (map view c.args.values.now) c.loop-i.i (view c.index-values-i.result) (mapped_within view c.args.values.now c.loop-i.i c.loop-i-test.true) (mapped_at view c.args.values.now c.loop-i.i c.index-values-i.result c.loop-i-test.true c.index-values-i.is) (sym c.has_name.ensures ∙ c.if-has_name.false)

pub returns : goal.returns
returns c =
    rw (c.loop-i.invariant, found_nowhere (has_name c.args.name.now) c.args.first (map view c.args.values.now) c.loop-i.i (mapped_past view c.args.values.now c.loop-i.i c.loop-i-test.false))
