use Rattle.template_files.proofs.ListedValues.{white-trimmed}
use Rattle.template_files.proofs.values.is_white.Goals as goal

pub returns : goal.returns
returns c = white-trimmed c.args.text.now c.trim_start.result.now c.is_empty.result c.trim_start.utf8 c.trim_start.ensures c.is_empty.ensures
