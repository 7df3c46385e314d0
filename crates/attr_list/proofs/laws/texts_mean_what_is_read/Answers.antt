use Rattle.attr_list.proofs.Meaning.{meaning}
use Rattle.attr_list.proofs.laws.texts_mean_what_is_read.Goals as goal

pub returns : goal.returns
returns c = meaning
