use Rattle.std.proofs.Common.{ℕ, List, None, length, get_or, set, sym, ap, subst, ◌∙◌, refl}
use Rattle.std.specs.Prelude.{Option, Bool, not}
use Rattle.std.proofs.lemmas.List.{length-set}
use Rattle.registry_core.specs.declared.entry.Entry.{Entry as Held}
use Rattle.registry_core.specs.Entries.{is_registered}
use Rattle.registry_slots.specs.Slots.{Apart, slot_at}
use Rattle.table_registry.specs.Tables.{Table, NoneIn}
use Rattle.registry_slots.proofs.SlotLists.{Drops, Drops-more, tests_some, drops_kept, get_kept}
use Rattle.registry_slots.proofs.Ranks.{places_apart}
use Rattle.table_registry.proofs.Contents.{drops_then, nowhere, NoneIn-removed}
use Rattle.table_registry.proofs.Along.{NoneIn-join}
use Rattle.registry_slots.specs.declared.orders.By.TheVariants as by
use Rattle.table_registry.proofs.table.TableRegistryRegistry.remove_url.Goals as goal

pub take_at-requires : goal.take_at-requires
take_at-requires c = c.in-Some.ensures.found.1

pub loop-preserved : goal.loop-preserved
loop-preserved c =
    let p : Held → Bool = is_registered c.args.url.now c.args.scopes.now in
    let S : List (Option Held) = c.loop.self.slots in
    let P : List ℕ = c.loop.self.places in
    let at : ℕ = c.in-Some.at in
    let f = c.in-Some.ensures.found in
    let x : ℕ = get_or P at 0 in
    let s = tests_some p (slot_at S x) f.3 in
    let none : NoneIn p S P 0 at = NoneIn-join p S P 0 c.loop.from at c.loop.invariant.passed f.2 in
    record {
      only = subst (Drops p c.args.self.now.slots) (sym c.take_at.ensures.slots) (Drops-more p c.args.self.now.slots S x s.0 c.loop.invariant.only s.1 s.2);
      passed = subst (λ ss. NoneIn p ss c.take_at.new.self.places 0 at) (sym c.take_at.ensures.slots) (subst (λ ns. NoneIn p (set S x None) ns 0 at) (sym c.take_at.ensures.places) (NoneIn-removed p S P at x f.1 none));
      room = ap length c.take_at.ensures.slots ∙ length-set S x None ∙ c.loop.invariant.room;
    }

pub returns-in-None-clause-each : goal.returns-in-None-clause-each
returns-in-None-clause-each c =
    let p : Held → Bool = is_registered c.args.url.now c.args.scopes.now in
    let S : List (Option Held) = c.args.self.now.slots in
    let apart : Apart S = subst (λ (t : Table). Apart t.slots) c.self.view_is (places_apart c.self.inside.slots.slots c.self.inside.places.items c.self.invariant.places) in
    let none : NoneIn p c.loop.self.slots c.loop.self.places 0 (length c.loop.self.places) = NoneIn-join p c.loop.self.slots c.loop.self.places 0 c.loop.from (length c.loop.self.places) c.loop.invariant.passed c.in-None.ensures.found in
    get_kept S c.loop.self.slots (λ e. not (p e)) (drops_kept p (λ e. not (p e)) S c.loop.self.slots (λ e. refl) c.loop.invariant.only (nowhere by.Place c.loop.self.slots c.loop.self.places c.in-None.ensures.sorted p none)) apart

pub returns-clause-each : goal.returns-clause-each
returns-clause-each c =
    let p : Held → Bool = is_registered c.args.url.now c.args.scopes.now in
    let S : List (Option Held) = c.args.self.now.slots in
    let N : List (Option Held) = c.drop_registered.new.self.slots in
    let apart : Apart S = subst (λ (t : Table). Apart t.slots) c.self.view_is (places_apart c.self.inside.slots.slots c.self.inside.places.items c.self.invariant.places) in
    get_kept S N (λ e. not (p e)) (drops_then p (λ e. not (p e)) S c.loop.self.slots N (λ e. refl) c.loop.invariant.only c.drop_registered.ensures.each) apart
