use Rattle.std.proofs.Common.{Some, sym, ◌∙◌}
use Rattle.directory_state.proofs.ShownEntries.{seen-from}
use Rattle.directory_state.proofs.asked.Viewer.if_live.Goals as goal

pub returns : goal.returns
returns c = seen-from c.args.self.now c.args.entry.now (Some c.args.first) (sym c.lives.ensures ∙ c.if-not-lives.false) c.requires
