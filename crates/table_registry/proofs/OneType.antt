-- The entries of one type in the order by type.
use Rattle.std.proofs.Common.{◌≡◌, ◌≢◌, ℕ, ◌<◌, ◌≤◌, true, List, length, drop, get_or, Option, Some, None, sym, ap, ap₂, subst, ◌∙◌, arith, inl, inr, ◌⊎◌}
use Rattle.std.proofs.lemmas.List.Sums.{prefix_len_passes}
use Rattle.std.specs.Ordering.{is_lt, ordering_reverse}
use Rattle.std.specs.declared.cmp.Ordering.TheVariants.{Less, Equal, Greater}
use Rattle.std.proofs.lemmas.Cmp.{nat_list_cmp_total}
use Rattle.std.proofs.lemmas.Map.Lookups.{exact_bytes}
use Rattle.std.proofs.lemmas.Bool.{cases_eq}
use Rattle.slp_text.specs.Words.{bytes_cmp, bytes_eq}
use Rattle.slp_text.proofs.KeySets.{bytes_same}
use Rattle.registry_core.specs.declared.entry.Entry.{Entry}
use Rattle.registry_slots.specs.declared.orders.By.TheVariants as by
use Rattle.registry_core.specs.Entries.{pair_cmp, pair_of, if_kept, is_kind, Passes}
use Rattle.registry_slots.specs.Slots.{slot_at, tests, gathered}
use Rattle.registry_slots.specs.Orders.{rank_cmp, rank_of, rank_in, rank_behind, comes_before, place_in, IsOrder}
use Rattle.registry_slots.proofs.SlotLists.{one_some, tests_some}
use Rattle.registry_slots.proofs.Ranks.{before_behind, own_behind, holds, rank_past, rank_within, rising_at}
use Rattle.table_registry.proofs.Along.{first_less}
use Rattle.table_registry.proofs.Skipped.{skipped}

module _ (slots : List (Option Entry)) (order : List ℕ) (o : IsOrder by.Kind slots order) (kind : List ℕ) where
  abbrev end : ℕ
  end = place_in by.Kind slots order (rank_behind kind)

  abbrev left : ℕ → List Entry
  left from = gathered (λ x. if_kept (is_kind None) (slot_at slots x)) (drop from order)

  -- no text is both before another one and not before it
  neither : (t : List ℕ) → bytes_cmp t kind ≢ Greater → (bytes_cmp kind t ≡ Less) ⊎ (bytes_cmp kind t ≡ Equal) → t ≡ kind
  neither t up (inr e) = sym (exact_bytes kind t e)
  neither t up (inl l) = absurd (up (nat_list_cmp_total.antisymm t kind ∙ ap ordering_reverse l))

  module _ (from : ℕ) (within : from < length order) (here : tests (λ e. bytes_eq e.kind kind) (slot_at slots (get_or order from 0)) ≡ true) where
    first : (e : Entry) × (slot_at slots (get_or order from 0) ≡ Some e) × (e.kind ≡ kind)
    first = let s = tests_some (λ e. bytes_eq e.kind kind) (slot_at slots (get_or order from 0)) here in (s.0, s.1, bytes_same s.0.kind kind s.2)

    -- from there to the end of the type each entry is of it
    kind_at : (j : ℕ) (f : Entry) → from ≤ j → j < end → slot_at slots (get_or order j 0) ≡ Some f → f.kind ≡ kind
    kind_at j f low high there = elim (cases_eq j from) [
      | inl i ↦ ap (λ (x : Entry). x.kind) (one_some (sym there ∙ ap (λ n. slot_at slots (get_or order n 0)) i ∙ first.1)) ∙ first.2
      | inr d ↦
          let long : j < length order = omega (arith, rank_within by.Kind slots (rank_behind kind) order) in
          let before : comes_before by.Kind (rank_behind kind) (Some f) ≡ true = ap (comes_before by.Kind (rank_behind kind)) (sym there) ∙ prefix_len_passes (λ x. comes_before by.Kind (rank_behind kind) (slot_at slots x)) order j 0 high in
          let less : rank_cmp (rank_of by.Kind first.0) (rank_of by.Kind f) ≡ Less = ap₂ rank_cmp (sym (ap (rank_in by.Kind) first.1)) (sym (ap (rank_in by.Kind) there)) ∙ rising_at by.Kind slots order from j o.rising (omega arith) long in
          neither f.kind (before_behind f.kind kind (pair_of f) before)
          (subst (λ k. (bytes_cmp k f.kind ≡ Less) ⊎ (bytes_cmp k f.kind ≡ Equal)) first.2 (first_less (bytes_cmp first.0.kind f.kind) (pair_cmp (pair_of first.0) (pair_of f)) less))
    ]

    pub onward-kind : from < end
    onward-kind = rank_past by.Kind slots (rank_behind kind) order from (holds by.Kind slots order o) o.rising within
        (ap (comes_before by.Kind (rank_behind kind)) first.1 ∙ ap (λ k. is_lt (rank_cmp (k, pair_of first.0) (rank_behind kind))) first.2 ∙ own_behind kind (pair_of first.0))

    pub passes-kind : Passes kind (left from) (left end)
    passes-kind = skipped slots (is_kind None) order (λ e. e.kind ≡ kind) from end (rank_within by.Kind slots (rank_behind kind) order) kind_at (omega (arith, onward-kind))
