use Rattle.std.proofs.Common.{ap, ◌∙◌}
use Rattle.registry_slots.specs.declared.orders.By.TheVariants as by
use Rattle.registry_slots.specs.Orders.{place_in, rank_behind}
use Rattle.table_registry.specs.Tables.{Table}
use Rattle.table_registry.proofs.table.TableRegistry.end_of_kind.Goals as goal

pub returns : goal.returns
returns c =
    c.place_of.ensures ∙ ap (place_in by.Kind c.self.inside.slots.slots c.self.inside.kinds.items) (c.behind-spot.ensures ∙ ap rank_behind (c.as_bytes.ensures.value ∙ c.text.ensures))
    ∙ ap (λ (t : Table). place_in by.Kind t.slots t.kinds (rank_behind c.args.kind.now)) c.self.view_is
