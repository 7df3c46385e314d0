use Rattle.std.proofs.Common.{[], Ok, Err, refl, ap, take}
use Rattle.std.specs.Option.{option_copied}
use Rattle.std.proofs.KnownBytes.{Appends-nil}
use Rattle.site_check.proofs.Sites.{look_on}
use Rattle.site_check.proofs.Written.{taken_more}
use Rattle.site_check.proofs.site.look_at_templates.Goals as goal
use Rattle.site_check.proofs.site.look_at_templates.Goals.{in-Ok+in_ok-added-in-Ok, in-Err+in_ok-report_unread-in-Err}

pub loop-path-init : goal.loop-path-init
loop-path-init g c = ([], refl, c.new-templates.ensures, ap Ok c.new-templates.ensures, Appends-nil _)

pub loop-path-preserved : goal.loop-path-preserved
loop-path-preserved g c =
    let before = take c.loop-path.path-index c.args.paths.now in
    let more = taken_more c.args.paths.now c.loop-path.path-index c.path-item.result c.loop-path-test.true c.path-item.is in
    elim c.match-read.branch [
      | in-Ok+in_ok-added-in-Ok w ↦
          let told = w.in_ok-added-in-Ok.ensures in
          rw (w.writer-is, w.templates-is, c.and-told.ensures, w.added-is, ← more, ← c.as_str-path.ensures, told.0)
          (look_on (option_copied c.args.rules) before c.loop-path.templates c.loop-path.told _ _ _ _ (record { path = c.as_str-path.result.now; read = Ok w.as_str.result.now }) c.loop-path.invariant (rw told.0 at told.1) told.2)
      | in-Err+in_ok-report_unread-in-Err w ↦
          let told = w.in_ok-report_unread-in-Err.ensures in
          rw (w.writer-is, w.templates-is, c.and-told.ensures, w.added-is, ← more, ← c.as_str-path.ensures)
          (look_on (option_copied c.args.rules) before c.loop-path.templates c.loop-path.told _ _ _ _ (record { path = c.as_str-path.result.now; read = Err w.in-Err.fault }) c.loop-path.invariant (ap Err told.0) told.1)
    ]
