use Rattle.std.proofs.KnownBytes.{Appends-trans}
use Rattle.site_check.proofs.warnings.warn_of_rules.Goals as goal

pub returns : goal.returns
returns g c =
    rw (← c.as_slice.ensures, ← c.hide_tables.ensures)
    (Appends-trans _ _ _ _ _ (Appends-trans _ _ _ _ _ (Appends-trans _ _ _ _ _ c.in_ok-warn_of_absence.ensures c.in_ok-warn_of_sight.ensures) c.in_ok-warn_of_each_rule.ensures) c.in_ok-warn_of_each_hide.ensures)
