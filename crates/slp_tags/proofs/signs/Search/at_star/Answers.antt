use Rattle.slp_tags.proofs.SignCodes.{came-within}
use Rattle.slp_tags.proofs.signs.Search.at_star.Goals as goal

pub star_at-requires-clause-within : goal.star_at-requires-clause-within
star_at-requires-clause-within c = came-within c.self.inside.came c.self.inside.codes.now c.self.invariant.0 c.self.invariant.3
