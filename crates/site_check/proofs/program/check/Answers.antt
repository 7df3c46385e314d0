use Rattle.std.proofs.KnownBytes.{Appends-kept}
use Rattle.site_check.proofs.Begun.{begun_is_read}
use Rattle.site_check.proofs.Sites.{then_written}
use Rattle.site_check.specs.SiteStatus.{site_begun}
use Rattle.site_check.proofs.program.check.Goals as goal

pub returns-clause-status : goal.returns-clause-status
returns-clause-status g c =
    let told = c.in_ok-status.ensures in (site_begun told.0, begun_is_read told.0 told.1, told.2)

pub returns-clause-written : goal.returns-clause-written
returns-clause-written g c =
    then_written c.args.path.now c.in_ok-status.status _ _ _ c.in_ok-status.ensures (Appends-kept _ _ _ _ c.in_ok-print_status.ensures c.in_ok-flush.ensures.bytes)
