use Rattle.slp_wire.proofs.Messages.{is_read_back}
use Rattle.slp_wire.proofs.laws.a_spelling_is_read_back.Goals as goal

pub returns : goal.returns
returns c = is_read_back
