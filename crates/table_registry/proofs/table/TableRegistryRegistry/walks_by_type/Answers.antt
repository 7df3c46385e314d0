use Rattle.std.proofs.Common.{None, subst}
use Rattle.registry_core.specs.Entries.{AreByType, is_kind}
use Rattle.registry_slots.specs.declared.orders.By.TheVariants as by
use Rattle.table_registry.specs.Tables.{Table, walked}
use Rattle.table_registry.proofs.TypeOrder.{rising-kinds}
use Rattle.table_registry.proofs.table.TableRegistryRegistry.walks_by_type.Goals as goal

pub returns : goal.returns
returns c = λ _. subst (λ (t : Table). AreByType (walked by.Kind t (is_kind None) 0)) c.self.view_is
    (rising-kinds c.self.inside.slots.slots c.self.inside.kinds.items c.self.invariant.kinds.rising)
