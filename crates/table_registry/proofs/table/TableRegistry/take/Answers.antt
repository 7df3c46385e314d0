use Rattle.std.proofs.Common.{ap, ◌∙◌}
use Rattle.registry_slots.specs.Slots.{slot_at}
use Rattle.table_registry.specs.Tables.{Table}
use Rattle.table_registry.proofs.table.TableRegistry.take.Goals as goal

pub stand_of-at-requires-clause-held : goal.stand_of-at-requires-clause-held
stand_of-at-requires-clause-held c = (c.requires.0, ap (λ (t : Table). slot_at t.slots c.args.x) c.self.view_is ∙ c.requires.1)
