use Rattle.std.proofs.Common.{◌≡◌, false, length, get_or, sym, ap, ◌∙◌, arith}
use Rattle.registry_slots.specs.declared.orders.By.TheVariants as by
use Rattle.registry_core.specs.Entries.{is_registered}
use Rattle.registry_slots.specs.Slots.{slot_at, tests}
use Rattle.registry_slots.proofs.Ranks.{length_most}
use Rattle.table_registry.specs.Tables.{Table}
use Rattle.table_registry.proofs.Along.{NoneIn-more, NoneIn-join}
use Rattle.table_registry.proofs.Contents.{NoneIn-registered}
use Rattle.table_registry.proofs.table.TableRegistry.next_registered.Goals as goal

pub overflow_add-at : goal.overflow_add-at
overflow_add-at c = omega (arith, length_most by.Place c.self.inside.slots.slots c.self.inside.places.items c.self.invariant.places, c.self.invariant.room, ap (λ (t : Table). length t.places) c.self.view_is, c.in-Some.ensures.1)

pub loop-place-preserved : goal.loop-place-preserved
loop-place-preserved c =
    let t : Table = c.args.self.now in
    let p = is_registered c.args.url.now c.args.scopes.now in
    let f = c.in-Some.ensures in
    let told : tests p (slot_at t.slots (get_or t.places c.in-Some.place 0)) ≡ false =
    ap (λ (t : Table). tests p (slot_at t.slots (get_or t.places c.in-Some.place 0))) (sym c.self.view_is) ∙ ap (λ n. tests p (slot_at c.self.inside.slots.slots n)) (sym c.at.ensures.value) ∙ sym c.is_registered_at.ensures ∙ c.if-is_registered_at.false in
    record {
      onward = omega (arith, f.0, c.loop-place.invariant.onward);
      passed = NoneIn-more p t.slots t.places c.args.from c.in-Some.place
          (NoneIn-join p t.slots t.places c.args.from c.loop-place.at c.in-Some.place c.loop-place.invariant.passed (NoneIn-registered c.args.url.now c.args.scopes.now t.slots t.places c.loop-place.at c.in-Some.place f.2)) told;
    }

pub returns-then-is_registered_at-clause-found : goal.returns-then-is_registered_at-clause-found
returns-then-is_registered_at-clause-found c =
    let t : Table = c.args.self.now in
    let p = is_registered c.args.url.now c.args.scopes.now in
    let f = c.in-Some.ensures in (
      omega (arith, f.0, c.loop-place.invariant.onward),
      f.1,
      NoneIn-join p t.slots t.places c.args.from c.loop-place.at c.in-Some.place c.loop-place.invariant.passed (NoneIn-registered c.args.url.now c.args.scopes.now t.slots t.places c.loop-place.at c.in-Some.place f.2),
      ap (λ (t : Table). tests p (slot_at t.slots (get_or t.places c.in-Some.place 0))) (sym c.self.view_is) ∙ ap (λ n. tests p (slot_at c.self.inside.slots.slots n)) (sym c.at.ensures.value) ∙ sym c.is_registered_at.ensures ∙ c.if-is_registered_at.true,
    )

pub returns-clause-found : goal.returns-clause-found
returns-clause-found c =
    let t : Table = c.args.self.now in
    let p = is_registered c.args.url.now c.args.scopes.now in
    NoneIn-join p t.slots t.places c.args.from c.loop-place.at (length t.places) c.loop-place.invariant.passed (NoneIn-registered c.args.url.now c.args.scopes.now t.slots t.places c.loop-place.at (length t.places) c.in_default.ensures)
