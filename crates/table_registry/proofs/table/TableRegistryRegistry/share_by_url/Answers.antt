use Rattle.std.proofs.Common.{◌≡◌, ◌<◌, Some, length, get_or, sym, ap, subst, ◌∙◌, arith}
use Rattle.std.specs.Arc.{arc_value}
use Rattle.registry_core.specs.declared.entry.Entry.{Entry as Held}
use Rattle.registry_slots.specs.declared.orders.By.TheVariants as by
use Rattle.registry_core.specs.Entries.{is_of_url, IsListing}
use Rattle.registry_slots.specs.Slots.{slot_at, tests}
use Rattle.table_registry.specs.Tables.{Table, contents_of, walked}
use Rattle.registry_slots.proofs.Ranks.{held_at, length_most, places_apart}
use Rattle.table_registry.proofs.Along.{gather_here, gather_to, gather_end, whole}
use Rattle.table_registry.proofs.table.TableRegistryRegistry.share_by_url.Goals as goal

pub share-requires : goal.share-requires
share-requires c =
    let l : c.in-Some.at < length c.self.inside.places.items = subst (λ (t : Table). c.in-Some.at < length t.places) (sym c.self.view_is) c.in-Some.ensures.1 in
    held_at by.Place c.self.inside.slots.slots c.self.inside.places.items c.self.invariant.places c.in-Some.at c.at.result l (sym c.at.ensures.value)

pub overflow_add-result : goal.overflow_add-result
overflow_add-result c = omega (arith, length_most by.Place c.self.inside.slots.slots c.self.inside.places.items c.self.invariant.places, c.self.invariant.room, ap (λ (t : Table). length t.places) c.self.view_is, c.in-Some.ensures.1)

pub returns-in-Some-clause-next : goal.returns-in-Some-clause-next
returns-in-Some-clause-next c =
    let p = is_of_url c.args.url.now in
    let t : Table = c.args.self.now in
    let f = c.in-Some.ensures in
    let e : Held = arc_value c.share.result.now in
    let idx : c.at.result ≡ get_or t.places c.in-Some.at 0 = c.at.ensures.value ∙ ap (λ (t : Table). get_or t.places c.in-Some.at 0) c.self.view_is in
    let there : slot_at t.slots (get_or t.places c.in-Some.at 0) ≡ Some e =
    ap (slot_at t.slots) (sym idx) ∙ ap (λ (t : Table). slot_at t.slots c.at.result) (sym c.self.view_is) ∙ c.share.ensures in
    gather_to p t.slots t.places c.args.from c.in-Some.at f.0 (omega (arith, f.1)) f.2
    ∙ gather_here p t.slots t.places c.in-Some.at e f.1 there (sym (ap (tests p) there) ∙ f.3)

pub returns-in-Some-clause-whole : goal.returns-in-Some-clause-whole
returns-in-Some-clause-whole c =
    let apart = places_apart c.self.inside.slots.slots c.self.inside.places.items c.self.invariant.places in
    subst (λ (t : Table). IsListing (is_of_url c.args.url.now) (contents_of t) (walked by.Place t (is_of_url c.args.url.now) 0)) c.self.view_is
    (whole by.Place c.self.inside.slots.slots c.self.inside.places.items c.self.invariant.places apart (is_of_url c.args.url.now))

pub returns-in-None-clause-next : goal.returns-in-None-clause-next
returns-in-None-clause-next c = gather_end (is_of_url c.args.url.now) c.args.self.now.slots c.args.self.now.places c.args.from c.in-None.ensures

pub returns-in-None-clause-whole : goal.returns-in-None-clause-whole
returns-in-None-clause-whole c =
    let apart = places_apart c.self.inside.slots.slots c.self.inside.places.items c.self.invariant.places in
    subst (λ (t : Table). IsListing (is_of_url c.args.url.now) (contents_of t) (walked by.Place t (is_of_url c.args.url.now) 0)) c.self.view_is
    (whole by.Place c.self.inside.slots.slots c.self.inside.places.items c.self.invariant.places apart (is_of_url c.args.url.now))
