use Rattle.attr_list.specs.Texts.{attributes_text}
use Rattle.attr_list.proofs.Meaning.{meaning}
use Rattle.attr_list.proofs.PrintedAttributes.{attributes-read_again}
use Rattle.attr_list.proofs.laws.attributes_are_read_again.Goals as goal

pub returns : goal.returns
returns c = λ a h. (meaning (attributes_text a) a).0 (attributes-read_again a h)
