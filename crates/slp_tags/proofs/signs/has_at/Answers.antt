use Rattle.slp_tags.proofs.SignCodes.{code-at}
use Rattle.slp_tags.proofs.signs.has_at.Goals as goal

pub returns : goal.returns
returns c = code-at c.args.place c.args.c 0 c.args.codes.now c.requires.character c.requires.within c.requires.codes
