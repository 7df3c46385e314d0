use Rattle.std.proofs.Common.{◌≡◌, ◌<◌, ℕ, false, length, Some}
use Rattle.registry_core.specs.declared.entry.Entry.{Entry as Held}
use Rattle.registry_slots.specs.Slots.{slot_at, is_due}
use Rattle.registry_slots.proofs.SlotLists.{Drops}
use Rattle.registry_slots.proofs.slots.Slots.clear_dead.Given as goal

-- what is gone was dead, and the slots that were passed have nothing that is
abbrev pub invariant-loop-x : goal.invariant-loop-x
invariant-loop-x l = record {
  only : Drops (is_due l.now) l.initial.self.slots l.self.slots;
  gone : (y : ℕ) (e : Held) → y < l.x → slot_at l.self.slots y ≡ Some e → is_due l.now e ≡ false;
  room : length l.self.slots ≡ length l.initial.self.slots;
}
