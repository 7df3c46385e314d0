use Rattle.std.proofs.Common.{not, sym, ap, ◌∙◌}
use Rattle.directory_state.proofs.OpenEntries.{asked-some}
use Rattle.directory_state.proofs.asked.Viewer.of.Goals as goal

pub returns-then-is_empty-clause-none : goal.returns-then-is_empty-clause-none
returns-then-is_empty-clause-none c =
    sym (asked-some c.args.site.now c.args.scopes.now c.is_empty.result c.of-asked.result c.of-asked.ensures c.is_empty.ensures) ∙ ap not c.if-is_empty.true

pub returns-clause-some : goal.returns-clause-some
returns-clause-some c =
    sym (asked-some c.args.site.now c.args.scopes.now c.is_empty.result c.of-asked.result c.of-asked.ensures c.is_empty.ensures) ∙ ap not c.if-is_empty.false
