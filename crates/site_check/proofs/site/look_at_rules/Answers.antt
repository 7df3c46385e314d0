use Rattle.std.proofs.Common.{[], Err, refl}
use Rattle.site_opening.specs.declared.files.FileFault.TheVariants.{NoMemory}
use Rattle.site_check.proofs.site.look_at_rules.Goals as goal

pub returns-in_ok-warn-in-None : goal.returns-in_ok-warn-in-None
returns-in_ok-warn-in-None g c =
    rw c.in-None.is (record { read = Err NoMemory; stop = record { place = 0; message = [] } }, tt, refl, c.in_ok-warn-in-None.ensures)
