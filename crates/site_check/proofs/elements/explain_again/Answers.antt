use Rattle.std.proofs.Common.{add_comm, map, sym, ◌∙◌}
use Rattle.std.proofs.KnownBytes.{Appends-nil}
use Rattle.toml.specs.View.{view}
use Rattle.site_check.specs.Elements.{is_at}
use Rattle.site_check.proofs.Written.{found_at, found_later, found_nowhere, mapped_at, mapped_past, mapped_within}
use Rattle.site_check.proofs.elements.explain_again.Goals as goal

pub returns-then-is_at : goal.returns-then-is_at
returns-then-is_at g c =
    let values = c.args.earlier.now in
    let found = c.loop-i.invariant.passed ∙ found_at (is_at c.args.place.now) 1 (map view values) c.loop-i.i (view c.index-earlier-i.result) (mapped_within view values c.loop-i.i c.loop-i-test.true) (mapped_at view values c.loop-i.i c.index-earlier-i.result c.loop-i-test.true c.index-earlier-i.is) (sym c.is_at.ensures ∙ c.if-is_at.true) in
    rw (found, add_comm 1 c.loop-i.i, ← c.loop-i.invariant.still) c.report.ensures

pub loop-i-preserved : goal.loop-i-preserved
loop-i-preserved g c =
    let values = c.args.earlier.now in
    record {
      still = c.loop-i.invariant.still;
      passed = c.loop-i.invariant.passed ∙ found_later (is_at c.args.place.now) 1 (map view values) c.loop-i.i (view c.index-earlier-i.result) (mapped_within view values c.loop-i.i c.loop-i-test.true) (mapped_at view values c.loop-i.i c.index-earlier-i.result c.loop-i-test.true c.index-earlier-i.is) (sym c.is_at.ensures ∙ c.if-is_at.false);
    }

pub returns : goal.returns
returns g c =
    rw (c.loop-i.invariant.passed, found_nowhere (is_at c.args.place.now) 1 (map view c.args.earlier.now) c.loop-i.i (mapped_past view c.args.earlier.now c.loop-i.i c.loop-i-test.false), c.loop-i.invariant.still) (Appends-nil _)
