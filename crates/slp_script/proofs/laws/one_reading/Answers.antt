use Rattle.slp_script.proofs.OneReading.{Reads-unique}
use Rattle.slp_script.proofs.laws.one_reading.Goals as goal

pub returns : goal.returns
returns c = Reads-unique
