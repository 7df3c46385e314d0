use Rattle.std.proofs.Common.{sym, subst}
use Rattle.std.specs.Prelude.{Bool}
use Rattle.registry_core.specs.declared.entry.Entry.{Entry as Held}
use Rattle.registry_core.specs.Entries.{IsListing}
use Rattle.registry_slots.specs.declared.orders.By.TheVariants as by
use Rattle.table_registry.specs.Tables.{Table, contents_of, walked}
use Rattle.table_registry.proofs.Along.{whole}
use Rattle.registry_slots.proofs.Ranks.{places_apart}
use Rattle.table_registry.proofs.table.TableRegistry.order.Goals as goal

pub returns-in-Place-clause-whole : goal.returns-in-Place-clause-whole
returns-in-Place-clause-whole c = subst (λ b. (p : Held → Bool) → IsListing p (contents_of c.args.self.now) (walked b c.args.self.now p 0)) (sym c.in-Place.is) (subst (λ (t : Table). (p : Held → Bool) → IsListing p (contents_of t) (walked by.Place t p 0)) c.self.view_is
    (whole by.Place c.self.inside.slots.slots c.self.inside.places.items c.self.invariant.places (places_apart c.self.inside.slots.slots c.self.inside.places.items c.self.invariant.places)))

pub returns-in-Root-clause-whole : goal.returns-in-Root-clause-whole
returns-in-Root-clause-whole c = subst (λ b. (p : Held → Bool) → IsListing p (contents_of c.args.self.now) (walked b c.args.self.now p 0)) (sym c.in-Root.is) (subst (λ (t : Table). (p : Held → Bool) → IsListing p (contents_of t) (walked by.Root t p 0)) c.self.view_is
    (whole by.Root c.self.inside.slots.slots c.self.inside.roots.items c.self.invariant.roots (places_apart c.self.inside.slots.slots c.self.inside.places.items c.self.invariant.places)))

pub returns-in-Kind-clause-whole : goal.returns-in-Kind-clause-whole
returns-in-Kind-clause-whole c = subst (λ b. (p : Held → Bool) → IsListing p (contents_of c.args.self.now) (walked b c.args.self.now p 0)) (sym c.in-Kind.is) (subst (λ (t : Table). (p : Held → Bool) → IsListing p (contents_of t) (walked by.Kind t p 0)) c.self.view_is
    (whole by.Kind c.self.inside.slots.slots c.self.inside.kinds.items c.self.invariant.kinds (places_apart c.self.inside.slots.slots c.self.inside.places.items c.self.invariant.places)))
