-- What stands after an entry that is alike.
use Rattle.std.proofs.Common.{◌≡◌, ℕ, suc, ◌+◌, ◌-◌, ◌<◌, true, false, cond, List, ◌∷◌, length, drop, get_or, Option, Some, None, refl, sym, ap, subst, ◌∙◌, arith, drop-cons}
use Rattle.service_url.specs.Types.{covers}
use Rattle.registry_core.proofs.Alike.{alike-same}
use Rattle.registry_core.specs.declared.entry.Entry.{Entry}
use Rattle.registry_core.specs.Entries.{are_alike, if_kept, is_kind}
use Rattle.registry_slots.specs.Slots.{slot_at, gathered, prepend}
use Rattle.table_registry.proofs.Along.{gather_here}

-- what comes first is one
same-first : (e f : Entry) (es : List Entry) → e ∷ es ≡ f ∷ es → e ≡ f
same-first e f es h = ap (λ xs. get_or xs 0 e) h

-- nothing is longer than itself
not-longer : (e : Entry) (es : List Entry) → es ≡ e ∷ es → ⊥
not-longer e es h = let n = ap length h in omega (arith, n)

kind-alike : (kind : Option (List ℕ)) (e f : Entry) → are_alike e f ≡ true → is_kind kind e ≡ is_kind kind f
kind-alike None e f alike = refl
kind-alike (Some kind) e f alike = ap (covers kind) (alike-same e f alike).kind

module _ (kind : Option (List ℕ)) (slots : List (Option Entry)) (order : List ℕ) (from : ℕ) (e here next : Entry) where
  abbrev given : ℕ → List Entry
  given n = gathered (λ x. if_kept (is_kind kind) (slot_at slots x)) (drop n order)

  pub given-next : 0 < from → from < length order → slot_at slots (get_or order (from - 1) 0) ≡ Some here → slot_at slots (get_or order from 0) ≡ Some next → are_alike here next ≡ true
      → given (from - 1) ≡ e ∷ given from → (given from ≡ next ∷ given (from + 1)) × (are_alike e next ≡ true)
  given-next some within at_last at_next alike is =
      let on : suc (from - 1) ≡ from = omega (arith, some) in
      let step : given (from - 1) ≡ prepend (if_kept (is_kind kind) (Some here)) (given from) =
      ap (gathered (λ x. if_kept (is_kind kind) (slot_at slots x))) (drop-cons order (from - 1) 0 (omega (arith, within)))
      ∙ ap (λ o. prepend (if_kept (is_kind kind) o) (given (suc (from - 1)))) at_last ∙ ap (λ n. prepend (if_kept (is_kind kind) (Some here)) (given n)) on in
      elim (is_kind kind here) as (λ b. is_kind kind here ≡ b → prepend (cond b (Some here) None) (given from) ≡ e ∷ given from → (given from ≡ next ∷ given (from + 1)) × (are_alike e next ≡ true)) [
        | true ↦ λ of_kind now. (
          gather_here (is_kind kind) slots order from next within at_next (sym (kind-alike kind here next alike) ∙ of_kind),
          subst (λ x. are_alike x next ≡ true) (same-first here e (given from) now) alike,
        )
        | false ↦ λ not_kind now. absurd (not-longer e (given from) now)
      ] refl (sym step ∙ is)
