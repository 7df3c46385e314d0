use Rattle.std.proofs.Common.{◌∙◌}
use Rattle.search_filter.proofs.Connecting.{not-one}
use Rattle.search_filter.proofs.parsing.negate.Goals as goal

pub returns-then-len-ne1 : goal.returns-then-len-ne1
returns-then-len-ne1 c = not-one c.args.filters.items (λ one. c.if-len-ne1.true (c.len.ensures ∙ c.args.filters.ok.0 ∙ one))
