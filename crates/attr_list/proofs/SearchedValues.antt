-- What is found among values by their order.
use Rattle.std.proofs.Common.{◌≡◌, ◌<◌, ◌≤◌, ◌-◌, ℕ, Bool, true, false, List, [], ◌∷◌, map, length, get_or, Result, Ok, Err, refl, sym, ap, subst, subst₂, ◌∙◌, arith, inl, inr}
use Rattle.std.specs.Prelude.{not, ◌||◌}
use Rattle.std.specs.List.{list_any}
use Rattle.std.specs.List.Sorted.{IsBinarySearchResult, IsNonDecreasingBy, IsPartitionPoint, IsSearchInRange}
use Rattle.std.specs.Ordering.{is_eq, is_lt, ordering_index}
use Rattle.std.specs.Prelude.{is_ok}
use Rattle.std.specs.declared.cmp.Ordering.{Ordering}
use Rattle.std.specs.declared.cmp.Ordering.TheVariants.{Less, Equal, Greater}
use Rattle.std.proofs.lemmas.Bool.{cases_lt}
use Rattle.std.proofs.lemmas.List.{get_or-map, get_or_default, length-map}
use Rattle.std.proofs.lemmas.List.Folds.{list_any_at, list_any_none}
use Rattle.std.proofs.lemmas.List.Sorted.{list_any-IsPermutation, ranks_by, sorted_far}
use Rattle.attr_values.proofs.Ranks.{value_order}
use Rattle.attr_values.specs.Ranks.{value_cmp, Rises}
use Rattle.attr_values.specs.declared.value.Value.{Value}
use Rattle.attr_list.proofs.Combined.{equal}
use Rattle.attr_list.specs.Orders.{value_at, IsOrder}

module _ {A : Type 0} (p : A → Bool) where
  any-map : {B : Type 0} (f : B → A) (xs : List B) → list_any (λ x. p (f x)) xs ≡ list_any p (map f xs)
  any-map f [] = refl
  any-map f (x ∷ xs) = ap (λ b. p (f x) || b) (any-map f xs)

between : (o : Ordering) → 1 ≤ ordering_index o → ordering_index o ≤ 1 → o ≡ Equal
between Less a b = absurd (omega (arith, a))
between Equal a b = refl
between Greater a b = absurd (omega (arith, b))

module _ (vs : List Value) (places : List ℕ) (order : IsOrder vs places) (s : Value → Ordering) (rises : Rises s) where
  abbrev stand : ℕ → Ordering
  stand place = s (value_at vs place)

  rising : IsNonDecreasingBy (λ place. ordering_index (stand place)) places
  rising i j d le k =
      let far = sorted_far (λ v w. is_lt (value_cmp v w)) (ranks_by value_order (λ v. v)) (map (value_at vs) places) order.sorted i j (value_at vs d) le (omega (arith, k, length-map places (value_at vs))) in
      subst₂ (λ v w. ordering_index (s v) ≤ ordering_index (s w)) (get_or-map (value_at vs) places i d (value_at vs d) (omega (arith, le, k))) (get_or-map (value_at vs) places j d (value_at vs d) k) (rises _ _ far)

  -- values pass a test as those at their places do
  any-there : (p : Value → Bool) → list_any (λ place. p (value_at vs place)) places ≡ list_any p vs
  any-there p = any-map p (value_at vs) places ∙ sym (list_any-IsPermutation p vs (map (value_at vs) places) order.each)

  missed : (i : ℕ) → IsPartitionPoint (λ place. stand place ≡ Less) (λ place. stand place ≡ Greater) places i → (k : ℕ) (d : ℕ) → k < length places → is_eq (stand (get_or places k d)) ≡ false
  missed i parts k d lt = elim (cases_lt k i) [
    | inl below ↦ ap is_eq (parts.0 k d (omega arith) below)
    | inr above ↦ ap is_eq (parts.1 k d above lt)
  ]

  -- what a search by halves answers
  pub has_one-is : (r : Result ℕ ℕ) → IsSearchInRange r (length places) → IsBinarySearchResult stand places r → is_ok r ≡ list_any (λ v. is_eq (s v)) vs
  has_one-is (Ok i) within is = sym (list_any_at (λ place. is_eq (stand place)) places i 0 within (ap is_eq (is 0))) ∙ any-there (λ v. is_eq (s v))
  has_one-is (Err i) within is =
      let parts = is rising in
      sym (list_any_none (λ place. is_eq (stand place)) places (missed i parts)) ∙ any-there (λ v. is_eq (s v))

  -- one that stands elsewhere
  pub has_other-at : (i : ℕ) → i < length places → is_eq (stand (get_or places i 0)) ≡ false → true ≡ list_any (λ v. not (is_eq (s v))) vs
  has_other-at i lt e = sym (list_any_at (λ place. not (is_eq (stand place))) places i 0 lt (ap not e)) ∙ any-there (λ v. not (is_eq (s v)))

  -- where the first and the last stand at `Equal`, all do
  has_other-none : is_eq (stand (get_or places 0 0)) ≡ true → is_eq (stand (get_or places (length places - 1) 0)) ≡ true → false ≡ list_any (λ v. not (is_eq (s v))) vs
  has_other-none first last =
      let at_first : stand (get_or places 0 0) ≡ Equal = equal _ first in
      let at_last : stand (get_or places (length places - 1) 0) ≡ Equal = equal _ last in
      sym (list_any_none (λ place. not (is_eq (stand place))) places (λ i d lt.
      let low = rising 0 i 0 (omega arith) lt in
      let high = rising i (length places - 1) 0 (omega (arith, lt)) (omega (arith, lt)) in
      ap (λ o. not (is_eq o)) (ap stand (get_or_default places i d 0 lt) ∙ between (stand (get_or places i 0)) (subst (λ o. ordering_index o ≤ ordering_index (stand (get_or places i 0))) at_first low) (subst (λ o. ordering_index (stand (get_or places i 0)) ≤ ordering_index o) at_last high))))
      ∙ any-there (λ v. not (is_eq (s v)))

  -- where the first stands at `Equal`, the last decides
  pub either : 0 < length places → (b : Bool) → is_eq (stand (get_or places 0 0)) ≡ true → b ≡ is_eq (stand (get_or places (length places - 1) 0)) → not b ≡ list_any (λ v. not (is_eq (s v))) vs
  either some true first last = has_other-none first (sym last)
  either some false first last = has_other-at (length places - 1) (omega arith) (sym last)

  -- no place, no value
  pub has_other-nothing : places ≡ [] → false ≡ list_any (λ v. not (is_eq (s v))) vs
  has_other-nothing e = ap (list_any (λ place. not (is_eq (stand place)))) (sym e) ∙ any-there (λ v. not (is_eq (s v)))
