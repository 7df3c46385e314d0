use Rattle.std.proofs.Common.{Ok, Err, refl}
use Rattle.site_opening.specs.declared.files.FileFault.TheVariants.{NoMemory}
use Rattle.site_opening.proofs.descriptors.descriptor_limit.Goals as goal

pub returns-in_ok-limit-in-Ok : goal.returns-in_ok-limit-in-Ok
returns-in_ok-limit-in-Ok g c = (Ok c.as_str.result.now, c.in_ok-limit-in-Ok.ensures)

pub returns-in-Err : goal.returns-in-Err
returns-in-Err g c = (Err NoMemory, refl)
