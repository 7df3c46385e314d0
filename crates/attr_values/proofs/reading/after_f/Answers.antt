use Rattle.attr_values.proofs.Rests.{after_digit}
use Rattle.attr_values.proofs.reading.after_f.Goals as goal

pub returns : goal.returns
returns c = after_digit c.args.text.now c.strip_prefix.result c.utf8.text c.strip_prefix.ensures.cases
