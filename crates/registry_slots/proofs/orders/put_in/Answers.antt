use Rattle.std.proofs.Common.{◌≡◌, ℕ, Some, set, sym, ap, ◌∙◌, subst, arith, List}
use Rattle.std.specs.Prelude.{Option}
use Rattle.std.specs.List.{insert}
use Rattle.registry_core.specs.declared.entry.Entry.{Entry as Held}
use Rattle.registry_slots.specs.Orders.{IsOrder, place_in, rank_of}
use Rattle.registry_slots.proofs.Ranks.{IsOrder-fill, rank_within, length_less}
use Rattle.registry_slots.proofs.orders.put_in.Goals as goal

pub insert-requires-clause-place : goal.insert-requires-clause-place
insert-requires-clause-place c =
    let at = c.place_of-at.ensures ∙ ap (place_in c.args.by c.args.slots.now.slots c.args.order.now.items) c.spot.ensures in
    omega (arith, rank_within c.args.by c.args.slots.now.slots (rank_of c.args.by c.args.entry.now) c.args.order.now.items)

pub insert-requires-clause-free : goal.insert-requires-clause-free
insert-requires-clause-free c =
    let less = length_less c.args.by c.args.slots.now.slots c.args.order.now.items c.args.x c.args.entry.now c.requires.order c.requires.inside c.requires.empty c.requires.fresh in
    omega (arith, less, c.requires.room)

pub returns-clause-order : goal.returns-clause-order
returns-clause-order c =
    let e : Held = c.args.entry.now in
    let S : List (Option Held) = c.args.slots.now.slots in
    let O : List ℕ = c.args.order.now.items in
    let at : c.place_of-at.result ≡ place_in c.args.by S O (rank_of c.args.by e) = c.place_of-at.ensures ∙ ap (place_in c.args.by S O) c.spot.ensures in
    subst (IsOrder c.args.by (set S c.args.x (Some e))) (sym (c.insert.ensures.items ∙ ap (λ n. insert O n c.args.x) at))
    (IsOrder-fill c.args.by S O c.args.x e c.requires.order c.requires.inside c.requires.empty c.requires.fresh)
