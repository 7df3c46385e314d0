use Rattle.std.proofs.Common.{subst, take}
use Rattle.std.specs.Prelude.{flat_map}
use Rattle.std.specs.Io.KnownBytes.{Appends}
use Rattle.std.proofs.KnownBytes.{Appends-trans}
use Rattle.site_check.specs.TemplateFaults.{default_line}
use Rattle.site_check.proofs.Written.{flat_map-found}
use Rattle.site_check.proofs.template_faults.warn_of_tags.Goals as goal

pub loop-tag-preserved : goal.loop-tag-preserved
loop-tag-preserved g c =
    let line = default_line c.args.path.now in
    let tags = c.args.tags.now in
    subst (Appends (g.W.Write.contents c.args.writer.now) (g.W.Write.contents c.warn.new.writer))
    (flat_map-found line tags c.loop-tag.tag-index c.tag-item.result c.loop-tag-test.true c.tag-item.is)
    (Appends-trans _ _ _ (flat_map line (take c.loop-tag.tag-index tags)) (line c.tag-item.result) c.loop-tag.invariant (rw (← c.as_str.ensures) c.in_ok-warn.ensures))
