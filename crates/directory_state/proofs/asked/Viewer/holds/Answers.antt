use Rattle.std.proofs.Common.{sym, ap, ◌∙◌}
use Rattle.search_filter.specs.Filters.{holds}
use Rattle.directory_state.proofs.ShownEntries.{no-tables, open-whole}
use Rattle.directory_state.proofs.asked.Viewer.holds.Goals as goal

pub returns-then-hide_nothing : goal.returns-then-hide_nothing
returns-then-hide_nothing c =
    let seen = c.args.seen in
    let none = no-tables c.args.self.now c.hide_nothing.result c.hide_nothing.ensures c.if-hide_nothing.true in
    c.holds.ensures ∙ ap (holds c.args.filter.now) (sym (open-whole c.args.self.now seen.entry.now seen.first none c.requires))
