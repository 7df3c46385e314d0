use Rattle.std.proofs.Common.{subst, ap, take}
use Rattle.std.specs.Prelude.{flat_map}
use Rattle.std.specs.Io.KnownBytes.{Appends}
use Rattle.std.specs.List.{enumerate_from}
use Rattle.std.proofs.KnownBytes.{Appends-trans}
use Rattle.site_check.specs.RuleWarnings.{rule_lines}
use Rattle.site_check.proofs.Written.{flat_map-indexed, indexed_all}
use Rattle.site_check.proofs.warnings.warn_of_each_rule.Goals as goal

pub loop-i-preserved : goal.loop-i-preserved
loop-i-preserved g c =
    let lines = rule_lines c.args.file.now c.args.site.rules.now c.args.site.scopes.now in
    subst (Appends (g.W.Write.contents c.args.writer.now) (g.W.Write.contents c.warn_of_rule.new.writer))
    (flat_map-indexed lines c.args.site.rules.now c.loop-i.i c.rule-item.result c.loop-i-test.true c.rule-item.is)
    (Appends-trans _ _ _ (flat_map lines (take c.loop-i.i (enumerate_from 0 c.args.site.rules.now))) (lines (c.loop-i.i, c.rule-item.result)) c.loop-i.invariant c.in_ok-warn_of_rule.ensures)

pub returns : goal.returns
returns g c =
    subst (Appends (g.W.Write.contents c.args.writer.now) (g.W.Write.contents c.loop-i.writer))
    (ap (flat_map (rule_lines c.args.file.now c.args.site.rules.now c.args.site.scopes.now)) (indexed_all c.args.site.rules.now c.loop-i.i c.loop-i-test.false))
    c.loop-i.invariant
