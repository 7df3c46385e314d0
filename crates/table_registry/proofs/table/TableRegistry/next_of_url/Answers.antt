use Rattle.std.proofs.Common.{◌≡◌, ◌<◌, ◌+◌, ℕ, true, false, List, length, get_or, sym, ap, subst, ◌∙◌, arith}
use Rattle.std.specs.Prelude.{not}
use Rattle.registry_slots.specs.declared.orders.By.TheVariants as by
use Rattle.registry_core.specs.Entries.{is_of_url, is_within}
use Rattle.registry_slots.specs.Slots.{slot_at, tests}
use Rattle.registry_slots.specs.Orders.{IsOrder}
use Rattle.table_registry.specs.Tables.{Table}
use Rattle.table_registry.proofs.Along.{NoneIn-more, NoneIn-join}
use Rattle.table_registry.proofs.Contents.{past_url}
use Rattle.table_registry.proofs.table.TableRegistry.next_of_url.Goals as goal

pub loop-at-preserved : goal.loop-at-preserved
loop-at-preserved c =
    let t : Table = c.args.self.now in
    let l : c.loop-at.at < length c.self.inside.places.items = omega (arith, c.loop-at-test.true, c.len.ensures.value) in
    let idx : c.at-x.result ≡ get_or t.places c.loop-at.at 0 = c.at-x.ensures.value ∙ ap (λ (t : Table). get_or t.places c.loop-at.at 0) c.self.view_is in
    let told : tests (is_of_url c.args.url.now) (slot_at t.slots (get_or t.places c.loop-at.at 0)) ≡ false =
    ap (λ n. tests (is_of_url c.args.url.now) (slot_at t.slots n)) (sym idx) ∙ ap (λ (t : Table). tests (is_of_url c.args.url.now) (slot_at t.slots c.at-x.result)) (sym c.self.view_is) ∙ sym c.slot_is_of_url.ensures ∙ c.if-slot_is_of_url.false in
    record {
      onward = omega (arith, c.loop-at.invariant.onward);
      passed = NoneIn-more (is_of_url c.args.url.now) t.slots t.places c.args.from c.loop-at.at c.loop-at.invariant.passed told;
    }

pub returns-then-slot_is_of_url : goal.returns-then-slot_is_of_url
returns-then-slot_is_of_url c =
    let t : Table = c.args.self.now in
    let l : c.loop-at.at < length c.self.inside.places.items = omega (arith, c.loop-at-test.true, c.len.ensures.value) in
    let idx : c.at-x.result ≡ get_or t.places c.loop-at.at 0 = c.at-x.ensures.value ∙ ap (λ (t : Table). get_or t.places c.loop-at.at 0) c.self.view_is in
    let told : tests (is_of_url c.args.url.now) (slot_at t.slots (get_or t.places c.loop-at.at 0)) ≡ true =
    ap (λ n. tests (is_of_url c.args.url.now) (slot_at t.slots n)) (sym idx) ∙ ap (λ (t : Table). tests (is_of_url c.args.url.now) (slot_at t.slots c.at-x.result)) (sym c.self.view_is) ∙ sym c.slot_is_of_url.ensures ∙ c.if-slot_is_of_url.true in
    (c.loop-at.invariant.onward, subst (λ (t : Table). c.loop-at.at < length t.places) c.self.view_is l, c.loop-at.invariant.passed, told)

pub returns-then-slot_is_after : goal.returns-then-slot_is_after
returns-then-slot_is_after c =
    let t : Table = c.args.self.now in
    let u : List ℕ = c.args.url.now in
    let l : c.loop-at.at < length c.self.inside.places.items = omega (arith, c.loop-at-test.true, c.len.ensures.value) in
    let idx : c.at-x.result ≡ get_or t.places c.loop-at.at 0 = c.at-x.ensures.value ∙ ap (λ (t : Table). get_or t.places c.loop-at.at 0) c.self.view_is in
    let told : tests (is_of_url u) (slot_at t.slots (get_or t.places c.loop-at.at 0)) ≡ false =
    ap (λ n. tests (is_of_url u) (slot_at t.slots n)) (sym idx) ∙ ap (λ (t : Table). tests (is_of_url u) (slot_at t.slots c.at-x.result)) (sym c.self.view_is) ∙ sym c.slot_is_of_url.ensures ∙ c.if-slot_is_of_url.false in
    let past : tests (λ e. not (is_within u e)) (slot_at t.slots (get_or t.places c.loop-at.at 0)) ≡ true =
    ap (λ n. tests (λ e. not (is_within u e)) (slot_at t.slots n)) (sym idx) ∙ ap (λ (t : Table). tests (λ e. not (is_within u e)) (slot_at t.slots c.at-x.result)) (sym c.self.view_is) ∙ sym c.slot_is_after.ensures ∙ c.if-slot_is_after.true in
    let sorted : IsOrder by.Place t.slots t.places = subst (λ (t : Table). IsOrder by.Place t.slots t.places) c.self.view_is c.self.invariant.places in
    NoneIn-join (is_of_url u) t.slots t.places c.args.from (c.loop-at.at + 1) (length t.places)
    (NoneIn-more (is_of_url u) t.slots t.places c.args.from c.loop-at.at c.loop-at.invariant.passed told)
    (past_url u t.slots t.places sorted c.loop-at.at past)

pub returns : goal.returns
returns c =
    let size = ap (λ (t : Table). length t.places) c.self.view_is in
    λ j l m. c.loop-at.invariant.passed j l (omega (arith, c.loop-at-test.false, c.len.ensures.value))
