use Rattle.std.proofs.Common.{◌≡◌, ◌≢◌, ℕ, Some, subst}
use Rattle.std.specs.Prelude.{MatchOption}
use Rattle.registry_core.specs.declared.entry.Entry.{Entry as Held}
use Rattle.registry_core.specs.Entries.{Pair, pair_of}
use Rattle.registry_slots.specs.Slots.{Apart, slot_at}
use Rattle.table_registry.specs.Tables.{Table}
use Rattle.registry_slots.proofs.Ranks.{places_apart}
use Rattle.table_registry.proofs.table.TableRegistry.slot_of.Goals as goal

pub returns-clause-apart : goal.returns-clause-apart
returns-clause-apart c = subst (λ (t : Table). Apart t.slots) c.self.view_is (places_apart c.self.inside.slots.slots c.self.inside.places.items c.self.invariant.places)

pub returns-clause-found : goal.returns-clause-found
returns-clause-found c =
    let q : Pair = (c.args.url.now, c.args.language.now) in
    subst (λ (t : Table). MatchOption c.find_slot.result ((x : ℕ) (e : Held) → slot_at t.slots x ≡ Some e → pair_of e ≢ q) (λ x. (e : Held) × (slot_at t.slots x ≡ Some e) × (pair_of e ≡ q))) c.self.view_is c.find_slot.ensures
