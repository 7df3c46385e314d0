use Rattle.std.proofs.Common.{sym, ◌∙◌}
use Rattle.std.specs.Option.{option_copied}
use Rattle.directory_state.proofs.PassedEntries.{unseen-passes}
use Rattle.directory_state.proofs.asked.Viewer.past_unseen.Goals as goal

pub returns-clause-passes : goal.returns-clause-passes
returns-clause-passes g c =
    let rest = g.R.Registry.rest_of_kind c.args.registry.now (option_copied c.args.kind) in
    unseen-passes c.args.self.now c.args.entry.now (rest c.args.next) (rest c.past_alike.result) (sym c.lives.ensures ∙ c.if-not-lives.false) c.requires c.past_alike.ensures.passes
