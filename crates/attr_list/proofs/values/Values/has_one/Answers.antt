use Rattle.std.proofs.Common.{◌≡◌, rules, length, subst, ◌∙◌, ap}
use Rattle.std.specs.Prelude.{IfSome}
use Rattle.std.specs.List.{list_any}
use Rattle.std.specs.List.Sorted.{IsBinarySearchResult, IsSearchInRange}
use Rattle.std.specs.Ordering.{is_eq}
use Rattle.std.proofs.lemmas.Fn.{always_returns_same}
use Rattle.std.proofs.lemmas.Iterator.{YieldsList-from_slice}
use Rattle.std.proofs.lemmas.Iterator.Search.{any_from_yields_List}
use Rattle.attr_list.specs.Orders.{value_at, IsOrder}
use Rattle.attr_list.proofs.SearchedValues.{has_one-is}
use Rattle.attr_list.proofs.values.Values.has_one.Goals as goal

pub returns-in-Some : goal.returns-in-Some
returns-in-Some g c = λ s stands rises.
    let vs = c.self.inside.items.items in
    let places = c.in-Some.order.value.items in
    let found = c.binary_search_by.result in
    let order : IsOrder vs places = subst (λ o. IfSome o (λ o. IsOrder vs o.value.items)) c.in-Some.is c.self.invariant in
    let facts = c.binary_search_by.ensures in
    let searched : c.deref-in-Some.result.now ≡ places = c.deref-in-Some.ensures.value ∙ ap (λ v. v.items) c.deref.ensures in
    let is = facts.position (λ place. s (value_at vs place)) (always_returns_same _ _ _ (λ a r f' k. (search (rules, stands), search rules))) in
    c.is_ok.ensures.value
    ∙ has_one-is vs places order s rises found (subst (λ ps. IsSearchInRange found (length ps)) searched facts.bound) (subst (λ ps. IsBinarySearchResult (λ place. s (value_at vs place)) ps found) searched is)
    ∙ ap (list_any (λ v. is_eq (s v))) c.self.view_is

pub returns-in-None : goal.returns-in-None
returns-in-None g c = λ s stands rises.
    any_from_yields_List (λ v. is_eq (s v)) _ _ c.any.result c.any.ensures.ran (YieldsList-from_slice c.args.self.now (search rules)) (λ x b q k. (search rules, search (rules, stands)))
