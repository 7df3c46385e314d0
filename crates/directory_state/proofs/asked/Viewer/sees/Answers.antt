use Rattle.std.proofs.Common.{sym, ◌∙◌}
use Rattle.directory_state.proofs.ShownEntries.{seen-from}
use Rattle.directory_state.proofs.asked.Viewer.sees.Goals as goal

pub returns-then-self-clause-seen : goal.returns-then-self-clause-seen
returns-then-self-clause-seen c =
    let v = c.args.self.now in
    seen-from v c.args.entry.now c.first_open_as_last.result (sym c.lives.ensures ∙ c.if-not-lives.false) c.first_open_as_last.ensures.first

pub returns-clause-seen : goal.returns-clause-seen
returns-clause-seen c =
    let v = c.args.self.now in
    seen-from v c.args.entry.now c.first_open.result (sym c.lives.ensures ∙ c.if-not-lives.false) c.first_open.ensures
