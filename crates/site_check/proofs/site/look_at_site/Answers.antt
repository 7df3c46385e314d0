use Rattle.std.proofs.Common.{ap, ◌∙◌}
use Rattle.site_opening.specs.Statuses.{start_status}
use Rattle.site_check.proofs.Sites.{site_unread}
use Rattle.site_check.proofs.site.look_at_site.Goals as goal

pub returns-in_ok-told-in-Err : goal.returns-in_ok-told-in-Err
returns-in_ok-told-in-Err g c =
    rw (c.status.ensures ∙ ap start_status c.in_ok-told-in-Err.ensures.0) (site_unread c.args.path.now c.in-Err.fault _ _ c.in_ok-told-in-Err.ensures.1)
