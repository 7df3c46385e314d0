use Rattle.std.proofs.Common.{[], Err, ap}
use Rattle.site_check.proofs.Sites.{rules_of_text}
use Rattle.site_check.proofs.site.look_at_rule_file.Goals as goal

pub returns-in-Ok : goal.returns-in-Ok
returns-in-Ok g c =
    rules_of_text _ c.args.path.now c.args.scopes.now c.as_str.result.now _ _ c.look_at_rule_text.ensures

pub returns-in_ok-told-in-Err : goal.returns-in_ok-told-in-Err
returns-in_ok-told-in-Err g c =
    (record { read = Err c.in-Err.fault; stop = record { place = 0; message = [] } }, tt, ap Err c.in_ok-told-in-Err.ensures.0, c.in_ok-told-in-Err.ensures.1)
