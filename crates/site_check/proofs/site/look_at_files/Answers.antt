use Rattle.site_check.proofs.Sites.{named_told}
use Rattle.site_check.proofs.site.look_at_files.Goals as goal

pub returns : goal.returns
returns g c =
    rw c.named_status.ensures
    (named_told c.args.path.now c.args.config.now c.in_ok-rules.rules c.in_ok-templates.templates _ _ _ c.in_ok-rules.ensures (rw (c.taken_rules.ensures, c.as_slice.ensures) at c.in_ok-templates.ensures))
