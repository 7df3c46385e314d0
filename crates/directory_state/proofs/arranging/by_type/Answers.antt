use Rattle.directory_state.specs.Searches.{entries_lent}
use Rattle.directory_state.proofs.ArrangedEntries.{arranged-itself}
use Rattle.directory_state.proofs.arranging.by_type.Goals as goal

pub returns-then-are_ordered-clause-arranged : goal.returns-then-are_ordered-clause-arranged
returns-then-are_ordered-clause-arranged c =
    arranged-itself (λ e. e.kind) (entries_lent c.args.found.entries.items) (c.requires c.if-are_ordered.true)
