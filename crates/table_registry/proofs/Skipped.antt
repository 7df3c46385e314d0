-- What a walk gives without what lies between two places of an order.
use Rattle.std.proofs.Common.{◌≡◌, ℕ, zero, suc, ◌+◌, ◌-◌, ◌<◌, ◌≤◌, true, false, cond, List, [], ◌∷◌, length, drop, get_or, Option, Some, None, refl, ap, subst, ◌∙◌, arith, drop-cons}
use Rattle.std.specs.Prelude.{Bool}
use Rattle.registry_core.specs.declared.entry.Entry.{Entry}
use Rattle.registry_core.specs.Entries.{if_kept, Skips}
use Rattle.registry_slots.specs.Slots.{slot_at, gathered, prepend}

module _ (slots : List (Option Entry)) (p : Entry → Bool) (order : List ℕ) (such : Entry → Type 0) (from end : ℕ) (within : end ≤ length order)
    (are : (j : ℕ) (f : Entry) → from ≤ j → j < end → slot_at slots (get_or order j 0) ≡ Some f → such f) where
  abbrev left : ℕ → List Entry
  left a = gathered (λ x. if_kept p (slot_at slots x)) (drop a order)

  one_more : (a b : ℕ) (o : Option Entry) → left a ≡ prepend (if_kept p o) (left (suc a)) → ((f : Entry) → o ≡ Some f → such f) → Skips such (left (suc a)) (left b) → Skips such (left a) (left b)
  one_more a b None step is more = (more.0, step ∙ more.1, more.2)
  one_more a b (Some f) step is more = elim (p f) as (λ t. left a ≡ prepend (cond t (Some f) None) (left (suc a)) → Skips such (left a) (left b)) [
    | true ↦ λ s. (f ∷ more.0, s ∙ ap (λ es. f ∷ es) more.1, (is f refl, more.2))
    | false ↦ λ s. (more.0, s ∙ more.1, more.2)
  ] step

  skips_to : (n a : ℕ) → from ≤ a → a + n ≤ end → Skips such (left a) (left (a + n))
  skips_to zero a low high = ([], ap left (omega arith), tt)
  skips_to (suc n) a low high =
      one_more a (a + suc n) (slot_at slots (get_or order a 0)) (ap (gathered (λ x. if_kept p (slot_at slots x))) (drop-cons order a 0 (omega (arith, within))))
      (λ f is. are a f low (omega arith) is)
      (subst (λ m. Skips such (left (suc a)) (left m)) (omega arith) (skips_to n (suc a) (omega arith) (omega arith)))

  pub skipped : from ≤ end → Skips such (left from) (left end)
  skipped low = subst (λ m. Skips such (left from) (left m)) (omega (arith, low)) (skips_to (end - from) from (omega arith) (omega (arith, low)))
