use Rattle.std.proofs.Common.{◌∙◌}
use Rattle.search_filter.proofs.ReadTexts.{nothing}
use Rattle.search_filter.proofs.reading.is_nothing.Goals as goal

pub returns : goal.returns
returns c = c.is_empty.ensures ∙ nothing c.args.text.now c.utf8.text
