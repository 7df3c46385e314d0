use Rattle.std.proofs.Common.{◌≡◌, ℕ, ◌<◌, ◌+◌, ◌-◌, ◌/◌, List, [], length, get_or, sym, ap, ◌∙◌, arith, inl, inr}
use Rattle.std.specs.Prelude.{Option}
use Rattle.std.specs.declared.cmp.Ordering.TheVariants.{Less, Greater}
use Rattle.registry_core.specs.declared.entry.Entry.{Entry as Held}
use Rattle.registry_core.specs.Entries.{Pair, pair_of}
use Rattle.registry_slots.specs.declared.orders.By.TheVariants as by
use Rattle.registry_slots.specs.Slots.{slot_at}
use Rattle.registry_slots.specs.Orders.{stands_to}
use Rattle.registry_slots.proofs.Ranks.{held_at, holds, pair_nowhere, rank_past, rank_upto, rank_within, stands-before}
use Rattle.registry_core.proofs.Lists.{pair_exact}
use Rattle.registry_slots.proofs.orders.find_slot.Goals as goal

pub loop-low-init : goal.loop-low-init
loop-low-init c = record {
  from = omega arith;
  upto = omega (arith, c.len-high.ensures.value, rank_within by.Place c.args.slots.now.slots ([], (c.args.url.now, c.args.language.now)) c.args.order.now.items);
  within = omega (arith, c.len-high.ensures.value);
  above = inl c.len-high.ensures.value;
}

pub held-requires : goal.held-requires
held-requires c = held_at by.Place c.args.slots.now.slots c.args.order.now.items c.requires (c.loop-low.low + (c.loop-low.high - c.loop-low.low) / 2) c.at-x.result (omega (arith, c.loop-low.invariant.within, c.loop-low-test.true)) (sym c.at-x.ensures.value)

pub loop-low-preserved-in-Less : goal.loop-low-preserved-in-Less
loop-low-preserved-in-Less c =
    let i : ℕ = c.loop-low.low + (c.loop-low.high - c.loop-low.low) / 2 in
    let q : Pair = (c.args.url.now, c.args.language.now) in
    let S : List (Option Held) = c.args.slots.now.slots in
    let O : List ℕ = c.args.order.now.items in
    let l : i < length O = omega (arith, c.loop-low.invariant.within, c.loop-low-test.true) in
    let told : stands_to q (slot_at S (get_or O i 0)) ≡ Less = ap (λ x. stands_to q (slot_at S x)) (sym c.at-x.ensures.value) ∙ ap (stands_to q) c.held.ensures ∙ sym c.in-Less.ensures in
    let past = rank_past by.Place S ([], q) O i (holds by.Place S O c.requires) c.requires.rising l (stands-before q (slot_at S (get_or O i 0)) Less told) in
    record { from = omega (arith, past); upto = c.loop-low.invariant.upto; within = c.loop-low.invariant.within; above = c.loop-low.invariant.above }

pub loop-low-preserved : goal.loop-low-preserved
loop-low-preserved c =
    let i : ℕ = c.loop-low.low + (c.loop-low.high - c.loop-low.low) / 2 in
    let q : Pair = (c.args.url.now, c.args.language.now) in
    let S : List (Option Held) = c.args.slots.now.slots in
    let O : List ℕ = c.args.order.now.items in
    let l : i < length O = omega (arith, c.loop-low.invariant.within, c.loop-low-test.true) in
    let told : stands_to q (slot_at S (get_or O i 0)) ≡ Greater = ap (λ x. stands_to q (slot_at S x)) (sym c.at-x.ensures.value) ∙ ap (stands_to q) c.held.ensures ∙ sym c.in-Greater.ensures in
    record {
      from = c.loop-low.invariant.from;
      upto = rank_upto by.Place S ([], q) O i l (stands-before q (slot_at S (get_or O i 0)) Greater told);
      within = omega arith;
      above = inr told;
    }

pub returns-in-Equal : goal.returns-in-Equal
returns-in-Equal c = (c.held.result.now, c.held.ensures, pair_exact (pair_of c.held.result.now) (c.args.url.now, c.args.language.now) (sym c.in-Equal.ensures))

pub returns : goal.returns
returns c =
    let q : Pair = (c.args.url.now, c.args.language.now) in
    let S : List (Option Held) = c.args.slots.now.slots in
    let O : List ℕ = c.args.order.now.items in
    pair_nowhere S O c.requires q c.loop-low.high (omega (arith, c.loop-low.invariant.from, c.loop-low.invariant.upto, c.loop-low-test.false)) c.loop-low.invariant.above
