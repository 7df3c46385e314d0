use Rattle.std.proofs.Common.{◌≡◌, ◌<◌, ◌-◌, ℕ, zero, suc, false, rules, length, get_or, subst, sym, ◌∙◌, ap, ap₂, arith}
use Rattle.std.specs.Prelude.{◌==◌, not, vec_len, IfSome}
use mathlib.Core.Bool.{true≢false}
use borrow.Author.Tests.{eqb-true}
use Rattle.std.proofs.lemmas.List.{get_or_default, nil_from_length}
use Rattle.std.specs.List.{list_any}
use Rattle.std.specs.Ordering.{is_eq}
use Rattle.std.proofs.lemmas.Iterator.{YieldsList-from_slice}
use Rattle.std.proofs.lemmas.Iterator.Search.{any_from_yields_List}
use Rattle.attr_list.specs.Orders.{value_at, IsOrder}
use Rattle.attr_list.proofs.SearchedValues.{either, has_other-at, has_other-nothing}
use Rattle.attr_list.proofs.values.Values.has_other.Goals as goal

above_zero : (n : ℕ) → (n == 0) ≡ false → 0 < n
above_zero zero e = absurd (true≢false e)
above_zero (suc n) e = omega arith

pub returns-in_default : goal.returns-in_default
returns-in_default g c = λ s stands rises.
    any_from_yields_List (λ v. not (is_eq (s v))) _ _ c.any.result c.any.ensures.ran (YieldsList-from_slice c.args.self.now (search rules)) (λ x b q k. (search rules, search (rules, stands)))

pub returns-then-is_empty : goal.returns-then-is_empty
returns-then-is_empty g c = λ s stands rises.
    let vs = c.self.inside.items.items in
    let places = c.in-Some.order.value.items in
    let order : IsOrder vs places = subst (λ o. IfSome o (λ o. IsOrder vs o.value.items)) c.in-Some.is c.self.invariant in
    let count : vec_len c.deref-2.result.now ≡ length places = search rules in
    has_other-nothing vs places order s rises (nil_from_length places (sym count ∙ eqb-true _ _ (sym c.is_empty.ensures ∙ c.if-is_empty.true)))
    ∙ ap (list_any (λ v. not (is_eq (s v)))) c.self.view_is

pub returns-then-not-is_eq : goal.returns-then-not-is_eq
returns-then-not-is_eq g c = λ s stands rises.
    let vs = c.self.inside.items.items in
    let places = c.in-Some.order.value.items in
    let order : IsOrder vs places = subst (λ o. IfSome o (λ o. IsOrder vs o.value.items)) c.in-Some.is c.self.invariant in
    let count : vec_len c.deref-2.result.now ≡ length places = search rules in
    let some : 0 < length places = above_zero (length places) (ap (λ n. n == 0) (sym count) ∙ sym c.is_empty.ensures ∙ c.if-is_empty.false) in
    let first : c.index-first.result.now ≡ get_or places 0 0 = c.index-first.ensures ∙ ap (λ v. get_or v.items 0 c.index-first.result.now) c.deref-3.ensures ∙ get_or_default places 0 c.index-first.result.now 0 some in
    let at_first : c.stand_at.result ≡ s (value_at vs (get_or places 0 0)) = c.stand_at.ensures s stands ∙ ap₂ (λ xs p. s (value_at xs p)) c.deref-6.ensures.value first in
    ap not c.if-not-is_eq.true
    ∙ has_other-at vs places order s rises 0 some (ap is_eq (sym at_first) ∙ sym c.is_eq.ensures ∙ c.if-not-is_eq.true)
    ∙ ap (list_any (λ v. not (is_eq (s v)))) c.self.view_is

pub returns-else-not-is_eq : goal.returns-else-not-is_eq
returns-else-not-is_eq g c = λ s stands rises.
    let vs = c.self.inside.items.items in
    let places = c.in-Some.order.value.items in
    let order : IsOrder vs places = subst (λ o. IfSome o (λ o. IsOrder vs o.value.items)) c.in-Some.is c.self.invariant in
    let count : vec_len c.deref-2.result.now ≡ length places = search rules in
    let some : 0 < length places = above_zero (length places) (ap (λ n. n == 0) (sym count) ∙ sym c.is_empty.ensures ∙ c.if-is_empty.false) in
    let first : c.index-first.result.now ≡ get_or places 0 0 = c.index-first.ensures ∙ ap (λ v. get_or v.items 0 c.index-first.result.now) c.deref-3.ensures ∙ get_or_default places 0 c.index-first.result.now 0 some in
    let counted : c.len.result ≡ length places = search rules in
    let last : c.index-last.result.now ≡ get_or places (length places - 1) 0 =
    c.index-last.ensures ∙ ap₂ (λ v n. get_or v.items (n - 1) c.index-last.result.now) c.deref-4.ensures counted ∙ get_or_default places (length places - 1) c.index-last.result.now 0 (omega (arith, some)) in
    let at_first : c.stand_at.result ≡ s (value_at vs (get_or places 0 0)) = c.stand_at.ensures s stands ∙ ap₂ (λ xs p. s (value_at xs p)) c.deref-6.ensures.value first in
    let at_last : c.stand_at-else-not-is_eq.result ≡ s (value_at vs (get_or places (length places - 1) 0)) = c.stand_at-else-not-is_eq.ensures s stands ∙ ap₂ (λ xs p. s (value_at xs p)) c.deref-else-not-is_eq.ensures.value last in
    either vs places order s rises some c.is_eq-else-not-is_eq.result (ap is_eq (sym at_first) ∙ sym c.is_eq.ensures ∙ c.if-not-is_eq.false) (c.is_eq-else-not-is_eq.ensures ∙ ap is_eq at_last)
    ∙ ap (list_any (λ v. not (is_eq (s v)))) c.self.view_is
