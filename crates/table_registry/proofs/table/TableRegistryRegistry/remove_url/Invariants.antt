use Rattle.std.proofs.Common.{◌≡◌, length}
use Rattle.registry_core.specs.Entries.{is_registered}
use Rattle.registry_slots.proofs.SlotLists.{Drops}
use Rattle.table_registry.specs.Tables.{NoneIn}
use Rattle.table_registry.proofs.table.TableRegistryRegistry.remove_url.Given as goal

-- what is gone was registered so, and none of those that were passed is
abbrev pub invariant-loop : goal.invariant-loop
invariant-loop l = record {
  only : Drops (is_registered l.url l.scopes) l.initial.self.slots l.self.slots;
  passed : NoneIn (is_registered l.url l.scopes) l.self.slots l.self.places 0 l.from;
  room : length l.self.slots ≡ length l.initial.self.slots;
}
