use Rattle.std.proofs.Common.{◌≡◌, ◌∙◌, ◌<◌, true, length, map, get_or, sym, ap, subst, arith}
use Rattle.std.specs.Prelude.{filter}
use Rattle.std.specs.List.{All}
use Rattle.attr_list.specs.Gathering.{AreFirsts, AreInOrder}
use Rattle.attr_list.specs.Lists.{distinct_values}
use Rattle.attr_list.specs.Orders.{IsOrder}
use Rattle.attr_list.specs.declared.order.Ranked.{Ranked}
use Rattle.attr_list.proofs.FirstValues.{place-below}
use Rattle.attr_list.proofs.KeptInOrder.{order-of-firsts}
use Rattle.attr_list.proofs.PlacesInOrder.{order-is}
use Rattle.attr_list.proofs.firsts.distinct_in_order.Goals as goal

pub returns-then-are_apart-clause-order : goal.returns-then-are_apart-clause-order
returns-then-are_apart-clause-order c =
    let vs = c.args.values.items in
    let rs = c.in_ok-ranked.ranked.items in
    let ranked : AreInOrder vs rs = subst (λ vs. AreInOrder vs rs) c.deref.ensures.value c.in_ok-ranked.ensures.order in
    subst (IsOrder vs) (sym (c.in_ok-order.ensures ∙ ap (map (λ a. a.place)) c.deref-then-are_apart.ensures.value)) (order-is vs rs ranked)

pub order_of_firsts-requires-clause-firsts : goal.order_of_firsts-requires-clause-firsts
order_of_firsts-requires-clause-firsts c =
    let vs = c.args.values.items in
    let rs = c.in_ok-ranked.ranked.items in
    let ranked : AreInOrder vs rs = subst (λ vs. AreInOrder vs rs) c.deref.ensures.value c.in_ok-ranked.ensures.order in
    let firsts : AreFirsts vs c.in_ok-firsts.firsts.items = subst (λ vs. AreFirsts vs c.in_ok-firsts.firsts.items) c.deref-2.ensures.value c.in_ok-firsts.ensures in
    let long : length c.deref-6.result.now ≡ length vs = ap length c.deref-6.ensures.value ∙ firsts.count in
    subst (λ xs. All (λ r. r.place < length c.deref-6.result.now) xs) (sym c.deref-5.ensures.value) (λ k d b. omega (arith, long, place-below vs rs ranked k d b))

pub order_of_firsts-requires-clause-places : goal.order_of_firsts-requires-clause-places
order_of_firsts-requires-clause-places c =
    let vs = c.args.values.items in
    let rs = c.in_ok-ranked.ranked.items in
    let ranked : AreInOrder vs rs = subst (λ vs. AreInOrder vs rs) c.deref.ensures.value c.in_ok-ranked.ensures.order in
    let long : length c.deref-7.result.now ≡ length vs = ap length c.deref-7.ensures.value ∙ c.in_ok-kept.ensures.places.count in
    subst (λ xs. All (λ r. r.place < length c.deref-7.result.now) xs) (sym c.deref-5.ensures.value) (λ k d b. omega (arith, long, place-below vs rs ranked k d b))

pub returns-clause-order : goal.returns-clause-order
returns-clause-order c =
    let vs = c.args.values.items in
    let rs = c.in_ok-ranked.ranked.items in
    let ranked : AreInOrder vs rs = subst (λ vs. AreInOrder vs rs) c.deref.ensures.value c.in_ok-ranked.ensures.order in
    let firsts : AreFirsts vs c.in_ok-firsts.firsts.items = subst (λ vs. AreFirsts vs c.in_ok-firsts.firsts.items) c.deref-2.ensures.value c.in_ok-firsts.ensures in
    let is : c.in_ok-order-2.order.items ≡ map (λ p. get_or c.in_ok-kept.new_places.items p 0) (filter (λ p. get_or c.in_ok-firsts.firsts.items p true) (map (λ r. r.place) rs)) =
    c.in_ok-order-2.ensures
    ∙ ap (λ ns. map (λ p. get_or ns p 0) (filter (λ p. get_or c.deref-6.result.now p true) (map (λ (r : Ranked). r.place) c.deref-5.result.now))) c.deref-7.ensures.value
    ∙ ap (λ fs. map (λ p. get_or c.in_ok-kept.new_places.items p 0) (filter (λ p. get_or fs p true) (map (λ (r : Ranked). r.place) c.deref-5.result.now))) c.deref-6.ensures.value
    ∙ ap (λ xs. map (λ p. get_or c.in_ok-kept.new_places.items p 0) (filter (λ p. get_or c.in_ok-firsts.firsts.items p true) (map (λ (r : Ranked). r.place) xs))) c.deref-5.ensures.value in
    subst (λ us. IsOrder us c.in_ok-order-2.order.items) (sym c.in_ok-kept.ensures.kept)
    (subst (IsOrder (distinct_values vs)) (sym is) (order-of-firsts vs c.in_ok-firsts.firsts.items firsts c.in_ok-kept.new_places.items c.in_ok-kept.ensures.places rs ranked))
