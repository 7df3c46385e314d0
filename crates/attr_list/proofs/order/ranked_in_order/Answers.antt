use Rattle.std.proofs.Common.{◌≡◌, true, length, rules, subst}
use Rattle.std.specs.List.{AllAdjacentBelow}
use Rattle.std.specs.Ordering.{is_lt}
use Rattle.attr_list.specs.Gathering.{AreInOrder}
use Rattle.attr_list.proofs.DistinctValues.{identity_cmp}
use Rattle.attr_list.proofs.OrderedValues.{rising-by}
use Rattle.attr_list.proofs.PlacesInOrder.{apart-kept, in-order, sorted-by}
use Rattle.attr_list.proofs.order.ranked_in_order.Goals as goal

pub returns-clause-order : goal.returns-clause-order
returns-clause-order c =
    in-order c.args.values.now c.in_ok-ranked.ranked.items c.sort_unstable_by.new.self.items c.in_ok-ranked.ensures.ranked c.in_ok-ranked.ensures.places c.sort_unstable_by.ensures.permutation
    (sorted-by _ c.sort_unstable_by.ensures.sorted (λ a r f' k. search rules))

pub returns-clause-apart : goal.returns-clause-apart
returns-clause-apart c = λ apart.
    let rs = c.sort_unstable_by.new.self.items in
    let ranked : AreInOrder c.args.values.now rs =
    in-order c.args.values.now c.in_ok-ranked.ranked.items rs c.in_ok-ranked.ensures.ranked c.in_ok-ranked.ensures.places c.sort_unstable_by.ensures.permutation
    (sorted-by _ c.sort_unstable_by.ensures.sorted (λ a r f' k. search rules)) in
    let rising = rising-by c.deref.result.now c.is_sorted_by-are_apart.result c.is_sorted_by-are_apart.ensures.cases (λ a r f' k. search rules) apart in
    apart-kept c.args.values.now rs ranked (subst (λ xs. AllAdjacentBelow (λ a b. true ≡ is_lt (identity_cmp a.identity b.identity)) xs (length xs)) c.deref.ensures.value rising)
