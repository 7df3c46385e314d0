use Rattle.slp_tags.specs.SignCodes.{signs_in}
use Rattle.slp_tags.proofs.Falls.{first-falls}
use Rattle.slp_tags.proofs.signs.Search.take_plain.Goals as goal

pub sweep-count-requires-clause-falls : goal.sweep-count-requires-clause-falls
sweep-count-requires-clause-falls c = first-falls (signs_in c.self.inside.codes.now) c.self.inside.falls.now c.self.invariant.2
