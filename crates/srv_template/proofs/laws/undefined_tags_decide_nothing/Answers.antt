use Rattle.srv_template.proofs.DefinedTags.{same_fault}
use Rattle.srv_template.proofs.laws.undefined_tags_decide_nothing.Goals as goal

pub returns : goal.returns
returns c = same_fault
