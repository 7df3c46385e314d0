use Rattle.attr_list.proofs.CutTexts.{after-mark}
use Rattle.search_filter.proofs.parsing.after_mark.Goals as goal

pub returns : goal.returns
returns c = after-mark c.args.mark c.args.text.now c.strip_prefix.result c.utf8.text c.strip_prefix.ensures.cases
