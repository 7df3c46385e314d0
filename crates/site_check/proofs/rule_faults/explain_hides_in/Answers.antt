use Rattle.std.proofs.Common.{map, subst, ap, take}
use Rattle.std.specs.Prelude.{flat_map}
use Rattle.std.specs.Io.KnownBytes.{Appends}
use Rattle.std.specs.List.{enumerate_from}
use Rattle.std.proofs.KnownBytes.{Appends-trans}
use Rattle.toml.specs.View.{view}
use Rattle.site_check.specs.RuleFaults.{hide_lines}
use Rattle.site_check.proofs.Written.{flat_map-indexed, indexed_all, mapped_at, mapped_past, mapped_within}
use Rattle.site_check.proofs.rule_faults.explain_hides_in.Goals as goal

pub loop-i-preserved : goal.loop-i-preserved
loop-i-preserved g c =
    let lines = hide_lines c.args.file.path.now (map view c.args.file.rules.now) (map view c.args.hides.now) in
    let values = c.args.hides.now in
    subst (Appends (g.W.Write.contents c.args.writer.now) (g.W.Write.contents c.explain_hide.new.writer))
    (flat_map-indexed lines (map view values) c.loop-i.i (view c.index-hides-i.result) (mapped_within view values c.loop-i.i c.loop-i-test.true) (mapped_at view values c.loop-i.i c.index-hides-i.result c.loop-i-test.true c.index-hides-i.is))
    (Appends-trans _ _ _ (flat_map lines (take c.loop-i.i (enumerate_from 0 (map view values)))) (lines (c.loop-i.i, view c.index-hides-i.result)) c.loop-i.invariant c.in_ok-explain_hide.ensures)

pub returns : goal.returns
returns g c =
    subst (Appends (g.W.Write.contents c.args.writer.now) (g.W.Write.contents c.loop-i.writer))
    (ap (flat_map (hide_lines c.args.file.path.now (map view c.args.file.rules.now) (map view c.args.hides.now))) (indexed_all (map view c.args.hides.now) c.loop-i.i (mapped_past view c.args.hides.now c.loop-i.i c.loop-i-test.false)))
    c.loop-i.invariant
