use Rattle.template_files.proofs.MeantTemplates.{meaning}
use Rattle.template_files.proofs.laws.texts_mean_what_is_read.Goals as goal

pub returns : goal.returns
returns c = meaning
