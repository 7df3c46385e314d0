use Rattle.std.proofs.KnownBytes.{Appends-trans}
use Rattle.site_check.proofs.Written.{written_after}
use Rattle.site_check.proofs.warnings.warn_of_hide.Goals as goal

pub returns : goal.returns
returns g c =
    rw (← c.as_ref.ensures.value, ← c.as_ref-2.ensures.value, ← c.as_str.ensures, ← c.as_slice.ensures)
    (written_after _ _ _ _ _ _ (Appends-trans _ _ _ _ _ c.in_ok-warn_of_from.ensures c.in_ok-warn_of_scopes.ensures) c.warn_of_kind.ensures)
