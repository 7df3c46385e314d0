use Rattle.std.proofs.Common.{sym, ap, ◌∙◌}
use Rattle.search_filter.specs.Filters.{holds}
use Rattle.directory_state.proofs.ShownEntries.{all-whole}
use Rattle.directory_state.proofs.asked.Viewer.holds_by_sight.Goals as goal

pub returns-in-None : goal.returns-in-None
returns-in-None c = c.holds.ensures ∙ ap (holds c.args.filter.now) (sym (all-whole c.args.self.now c.args.seen.entry.now c.in-None.ensures))
