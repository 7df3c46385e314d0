use Rattle.slp_script.proofs.OneReading.{Reads-not_stopped}
use Rattle.slp_script.proofs.laws.no_fault.Goals as goal

pub returns : goal.returns
returns c = Reads-not_stopped
