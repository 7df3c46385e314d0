use Rattle.std.proofs.Common.{subst}
use Rattle.std.specs.Option.{option_copied}
use Rattle.registry_core.specs.Entries.{is_kind, PassesAlike}
use Rattle.table_registry.specs.Tables.{walked}
use Rattle.table_registry.proofs.table.TableRegistryRegistry.past_alike.Goals as goal

pub returns-clause-passes : goal.returns-clause-passes
returns-clause-passes c =
    let p = is_kind (option_copied c.args.kind) in
    subst (λ b. PassesAlike c.args.entry.now (walked b c.args.self.now p c.args.from) (walked b c.args.self.now p c.end_of_run.result)) c.by_for.ensures (c.end_of_run.ensures.passes p)
