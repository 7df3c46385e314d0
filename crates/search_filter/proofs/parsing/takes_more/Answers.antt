use Rattle.std.proofs.Common.{◌∙◌, ap, sym}
use Rattle.std.specs.Prelude.{◌==◌}
use Rattle.search_filter.specs.Reading.{takes_another}
use Rattle.search_filter.specs.Trees.{filters_in}
use Rattle.search_filter.proofs.Connecting.{takes-first}
use Rattle.search_filter.proofs.parsing.takes_more.Goals as goal

pub returns-in-Not : goal.returns-in-Not
returns-in-Not c = c.is_empty.ensures ∙ ap (λ n. n == 0) c.args.filters.now.ok.0 ∙ takes-first c.args.filters.now.items ∙ ap (λ k. takes_another k (filters_in c.args.filters.now.items)) (sym c.in-Not.is)
