use Rattle.attr_values.proofs.Rests.{after_slash}
use Rattle.attr_values.proofs.reading.after_backslash.Goals as goal

pub returns : goal.returns
returns c = after_slash c.args.text.now c.strip_prefix.result c.utf8.text c.strip_prefix.ensures.cases
