use Rattle.std.proofs.Common.{ap, subst, take}
use Rattle.std.specs.Prelude.{flat_map}
use Rattle.std.specs.Io.KnownBytes.{Appends}
use Rattle.std.specs.List.{enumerate_from}
use Rattle.std.proofs.KnownBytes.{Appends-trans}
use Rattle.site_check.specs.Lines.{place_in}
use Rattle.site_check.specs.RuleWarnings.{from_line}
use Rattle.site_check.proofs.Written.{flat_map-indexed, indexed_all}
use Rattle.site_check.proofs.warnings.warn_of_from.Goals as goal

pub loop-i-preserved : goal.loop-i-preserved
loop-i-preserved g c =
    let line = from_line (place_in c.args.place) in
    subst (Appends (g.W.Write.contents c.args.writer.now) (g.W.Write.contents c.warn_of_prefix.new.writer))
    (flat_map-indexed line c.args.from.now c.loop-i.i c.index-from-i.result c.loop-i-test.true c.index-from-i.is)
    (Appends-trans _ _ _ (flat_map line (take c.loop-i.i (enumerate_from 0 c.args.from.now))) (line (c.loop-i.i, c.index-from-i.result)) c.loop-i.invariant c.in_ok-warn_of_prefix.ensures)

pub returns : goal.returns
returns g c =
    subst (Appends (g.W.Write.contents c.args.writer.now) (g.W.Write.contents c.loop-i.writer))
    (ap (flat_map (from_line (place_in c.args.place))) (indexed_all c.args.from.now c.loop-i.i c.loop-i-test.false))
    c.loop-i.invariant
