use Rattle.slp_script.proofs.OneReading.{StopsAt-unique}
use Rattle.slp_script.proofs.laws.one_fault.Goals as goal

pub returns : goal.returns
returns c = StopsAt-unique
