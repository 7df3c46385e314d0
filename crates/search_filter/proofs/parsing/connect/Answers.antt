use Rattle.std.proofs.Common.{◌∙◌, ap, sym, Ok}
use Rattle.std.specs.Prelude.{◌==◌}
use Rattle.search_filter.specs.Reading.{connected_or_fault}
use Rattle.search_filter.specs.Trees.{filters_in}
use Rattle.search_filter.proofs.Connecting.{some-and, some-or}
use Rattle.search_filter.proofs.parsing.connect.Goals as goal

pub returns-in-And : goal.returns-in-And
returns-in-And c =
    ap (λ k. connected_or_fault k (filters_in c.args.filters.items)) c.in-And.is
    ∙ some-and c.args.filters.items (ap (λ n. n == 0) (sym c.args.filters.ok.0) ∙ sym c.is_empty.ensures ∙ c.if-is_empty.false) ∙ ap Ok (sym c.all_of.ensures)

pub returns-in-Or : goal.returns-in-Or
returns-in-Or c =
    ap (λ k. connected_or_fault k (filters_in c.args.filters.items)) c.in-Or.is
    ∙ some-or c.args.filters.items (ap (λ n. n == 0) (sym c.args.filters.ok.0) ∙ sym c.is_empty.ensures ∙ c.if-is_empty.false) ∙ ap Ok (sym c.any_of.ensures)
