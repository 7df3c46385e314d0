use Rattle.std.proofs.Common.{add_comm, sym, ◌∙◌, arith}
use Rattle.std.proofs.KnownBytes.{Appends-nil}
use Rattle.site_check.specs.Hiding.{hides}
use Rattle.site_check.proofs.Written.{found_at, found_later, found_nowhere}
use Rattle.site_check.proofs.warnings.warn_of_hiding.Goals as goal

pub returns-then-hides : goal.returns-then-hides
returns-then-hides g c =
    let found = c.loop-i.invariant.passed ∙ found_at (λ other. hides other c.args.rule.now) 1 c.args.earlier.now c.loop-i.i c.index-earlier-i.result c.loop-i-test.true c.index-earlier-i.is (sym c.hides.ensures ∙ c.if-hides.true) in
    rw (found, add_comm 1 c.loop-i.i, ← c.as_str.ensures, ← c.loop-i.invariant.still) c.warn.ensures

pub loop-i-preserved : goal.loop-i-preserved
loop-i-preserved g c = record {
  still = c.loop-i.invariant.still;
  passed = c.loop-i.invariant.passed ∙ found_later (λ other. hides other c.args.rule.now) 1 c.args.earlier.now c.loop-i.i c.index-earlier-i.result c.loop-i-test.true c.index-earlier-i.is (sym c.hides.ensures ∙ c.if-hides.false);
}

pub returns : goal.returns
returns g c =
    rw (c.loop-i.invariant.passed, found_nowhere (λ other. hides other c.args.rule.now) 1 c.args.earlier.now c.loop-i.i (omega arith), c.loop-i.invariant.still) (Appends-nil _)
