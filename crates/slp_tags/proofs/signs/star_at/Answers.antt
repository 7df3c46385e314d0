use Rattle.slp_tags.proofs.SignCodes.{code-star}
use Rattle.slp_tags.proofs.signs.star_at.Goals as goal

pub returns : goal.returns
returns c = code-star c.args.place 0 c.args.codes.now c.requires.within c.requires.codes
