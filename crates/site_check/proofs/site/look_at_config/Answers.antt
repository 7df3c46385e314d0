use Rattle.site_check.proofs.Sites.{config_refused, config_told}
use Rattle.site_check.proofs.site.look_at_config.Goals as goal

pub returns-in-Ok : goal.returns-in-Ok
returns-in-Ok g c =
    config_told _ c.args.file.path.now c.args.file.text.now c.in-Ok.config _ _ c.in-Ok.ensures.reading c.look_at_named-told.ensures

pub returns-in-Err : goal.returns-in-Err
returns-in-Err g c =
    config_refused _ c.args.file.path.now c.args.file.text.now c.in-Err.fault _ _ c.in-Err.ensures.reading c.explain_refused.ensures.text c.explain_refused.ensures.status
    c.explain_refused.ensures.written
