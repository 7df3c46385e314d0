use Rattle.std.proofs.Common.{◌≡◌, ℕ, ◌<◌, ◌+◌, ◌-◌, ◌/◌, true, false, length, get_or, sym, ap, ◌∙◌, arith}
use Rattle.registry_slots.specs.Slots.{slot_at}
use Rattle.registry_slots.specs.Orders.{Rank, comes_before, spot_rank}
use Rattle.registry_slots.proofs.Ranks.{held_at, rank_past, rank_upto, rank_within, holds}
use Rattle.registry_slots.proofs.orders.place_of.Goals as goal

pub loop-low-init : goal.loop-low-init
loop-low-init c = record {
  from = omega arith;
  upto = omega (arith, c.len-high.ensures.value, rank_within c.args.by c.args.slots.now.slots (spot_rank c.args.spot.now) c.args.order.now.items);
  within = omega (arith, c.len-high.ensures.value);
}

pub held-requires : goal.held-requires
held-requires c = held_at c.args.by c.args.slots.now.slots c.args.order.now.items c.requires (c.loop-low.low + (c.loop-low.high - c.loop-low.low) / 2) c.at.result (omega (arith, c.loop-low.invariant.within, c.loop-low-test.true)) (sym c.at.ensures.value)

pub loop-low-preserved-then-is_before : goal.loop-low-preserved-then-is_before
loop-low-preserved-then-is_before c =
    let i : ℕ = c.loop-low.low + (c.loop-low.high - c.loop-low.low) / 2 in
    let q : Rank = spot_rank c.args.spot.now in
    let l : i < length c.args.order.now.items = omega (arith, c.loop-low.invariant.within, c.loop-low-test.true) in
    let told : comes_before c.args.by q (slot_at c.args.slots.now.slots (get_or c.args.order.now.items i 0)) ≡ true = ap (λ x. comes_before c.args.by q (slot_at c.args.slots.now.slots x)) (sym c.at.ensures.value) ∙ ap (comes_before c.args.by q) c.held.ensures ∙ sym c.if-is_before.ensures in
    let past = rank_past c.args.by c.args.slots.now.slots q c.args.order.now.items i (holds c.args.by c.args.slots.now.slots c.args.order.now.items c.requires) c.requires.rising l told in
    record { from = omega (arith, past); upto = c.loop-low.invariant.upto; within = c.loop-low.invariant.within }

pub loop-low-preserved : goal.loop-low-preserved
loop-low-preserved c =
    let i : ℕ = c.loop-low.low + (c.loop-low.high - c.loop-low.low) / 2 in
    let q : Rank = spot_rank c.args.spot.now in
    let l : i < length c.args.order.now.items = omega (arith, c.loop-low.invariant.within, c.loop-low-test.true) in
    let told : comes_before c.args.by q (slot_at c.args.slots.now.slots (get_or c.args.order.now.items i 0)) ≡ false = ap (λ x. comes_before c.args.by q (slot_at c.args.slots.now.slots x)) (sym c.at.ensures.value) ∙ ap (comes_before c.args.by q) c.held.ensures ∙ sym c.if-is_before.ensures in
    record {
      from = c.loop-low.invariant.from;
      upto = rank_upto c.args.by c.args.slots.now.slots q c.args.order.now.items i l told;
      within = omega arith;
    }
