use Rattle.std.proofs.Common.{[], sym, ap, arith}
use Rattle.site_opening.specs.Openings.{started}
use Rattle.site_opening.specs.Statuses.{rules_start}
use Rattle.site_check.proofs.site.look_at_rule_text.Goals as goal

pub returns-in-Ok-warn_of_rules : goal.returns-in-Ok-warn_of_rules
returns-in-Ok-warn_of_rules g c =
    let taken = rw c.in-Ok.is at c.rules_of_text.ensures in
    (sym (ap (started rules_start) taken), (record { place = 0; message = [] }, omega arith, rw taken c.in-Ok-warn_of_rules.ensures))
