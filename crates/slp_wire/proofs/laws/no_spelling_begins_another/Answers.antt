use Rattle.slp_wire.proofs.Messages.{begins_no_other}
use Rattle.slp_wire.proofs.laws.no_spelling_begins_another.Goals as goal

pub returns : goal.returns
returns c = begins_no_other
