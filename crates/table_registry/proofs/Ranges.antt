-- What a type covers stands together in the order for it.
use Rattle.std.proofs.Common.{◌≡◌, ◌≢◌, ℕ, ◌<◌, ◌≤◌, ◌+◌, ◌-◌, zero, suc, true, false, cond, List, [], length, drop, get_or, Option, Some, None, refl, sym, ap, ◌∙◌, arith, inl, inr}
use Rattle.std.proofs.lemmas.Bool.{cases_lt}
use Rattle.std.proofs.lemmas.List.Sums.{prefix_len_passes}
use Rattle.std.proofs.lemmas.Map.Lookups.{exact_bytes}
use Rattle.std.specs.Ordering.{is_lt, ordering_then}
use Rattle.std.specs.declared.cmp.Ordering.{Ordering}
use Rattle.std.specs.declared.cmp.Ordering.TheVariants.{Less, Equal, Greater}
use Rattle.slp_text.specs.Words.{bytes_cmp}
use Rattle.service_url.specs.Types.{covers, is_abstract}
use Rattle.service_url.proofs.Covered.{covers_itself, root_covers}
use Rattle.registry_core.specs.declared.entry.Entry.{Entry}
use Rattle.registry_core.specs.Entries.{pair_cmp, pair_of, if_kept, is_kind}
use Rattle.registry_slots.specs.declared.orders.By.{By}
use Rattle.registry_slots.specs.declared.orders.By.TheVariants as by
use Rattle.registry_slots.specs.Slots.{slot_at, gathered, tests}
use Rattle.registry_slots.specs.Orders.{rank_cmp, rank_behind, front_of, comes_before, place_in, IsOrder}
use Rattle.registry_slots.proofs.Ranks.{before_behind, held_at, own_behind, holds, rank_past, rank_within}
use Rattle.table_registry.specs.Tables.{by_for, NoneIn}
use Rattle.table_registry.proofs.Along.{covered_front, gather_end, gather_here, gather_to, start_none}

-- what has the front of a type is covered by it
front_covered : (kind : List ℕ) (e : Entry) → front_of (by_for (Some kind)) e ≡ kind → covers kind e.kind ≡ true
front_covered kind e h = elim (is_abstract kind) as (λ b. is_abstract kind ≡ b → front_of (cond b by.Root by.Kind) e ≡ kind → covers kind e.kind ≡ true) [
  | true ↦ λ a f. root_covers kind e.kind a f
  | false ↦ λ a f. ap (covers kind) f ∙ covers_itself kind
] refl h

equal_of : (o p : Ordering) → o ≢ Greater → is_lt (ordering_then o p) ≡ false → o ≡ Equal
equal_of Less p g l = cc
equal_of Equal p g l = refl
equal_of Greater p g l = absurd (g refl)

module _ (kind : List ℕ) (slots : List (Option Entry)) (order : List ℕ) (o : IsOrder (by_for (Some kind)) slots order) where
  abbrev way : By
  way = by_for (Some kind)

  abbrev pub start : ℕ
  start = place_in way slots order (kind, ([], []))

  abbrev pub end : ℕ
  end = place_in way slots order (rank_behind kind)

  pub end_within : end ≤ length order
  end_within = rank_within way slots (rank_behind kind) order

  -- between them each entry is of a type that is covered
  pub range_covered : (j : ℕ) (e : Entry) → start ≤ j → j < end → slot_at slots (get_or order j 0) ≡ Some e → covers kind e.kind ≡ true
  range_covered j e low high there =
      let long : j < length order = omega (arith, end_within) in
      let behind : comes_before way (rank_behind kind) (Some e) ≡ true = ap (comes_before way (rank_behind kind)) (sym there) ∙ prefix_len_passes (λ x. comes_before way (rank_behind kind) (slot_at slots x)) order j 0 high in
      let ahead : comes_before way (kind, ([], [])) (Some e) ≡ false = elim (comes_before way (kind, ([], [])) (Some e)) as (λ b. comes_before way (kind, ([], [])) (Some e) ≡ b → b ≡ false) [
        | true ↦ λ h. let past = rank_past way slots (kind, ([], [])) order j (holds way slots order o) o.rising long (ap (comes_before way (kind, ([], []))) there ∙ h) in absurd (omega arith)
        | false ↦ λ h. refl
      ] refl in
      front_covered kind e (exact_bytes (front_of way e) kind (equal_of (bytes_cmp (front_of way e) kind) (pair_cmp (pair_of e) ([], [])) (before_behind (front_of way e) kind (pair_of e) behind) ahead))

  -- behind the end none is
  pub range_over : NoneIn (is_kind (Some kind)) slots order end (length order)
  range_over = λ j l m. elim (slot_at slots (get_or order j 0)) as (λ s. slot_at slots (get_or order j 0) ≡ s → tests (is_kind (Some kind)) s ≡ false) [
    | None ↦ λ h. refl
    | Some e ↦ λ h. elim (covers kind e.kind) as (λ t. covers kind e.kind ≡ t → t ≡ false) [
      | true ↦ λ t.
          let own : comes_before way (rank_behind kind) (Some e) ≡ true = ap (λ k. is_lt (rank_cmp (k, pair_of e) (rank_behind kind))) (covered_front kind e t) ∙ own_behind kind (pair_of e) in
          let past = rank_past way slots (rank_behind kind) order j (holds way slots order o) o.rising m (ap (comes_before way (rank_behind kind)) h ∙ own) in
          absurd (omega arith)
      | false ↦ λ t. refl
    ] refl
  ] refl

  abbrev found : ℕ → List Entry
  found from = gathered (λ x. if_kept (is_kind (Some kind)) (slot_at slots x)) (drop from order)

  -- from a place between them on there are as many as up to the end
  range_len : (n i : ℕ) → i + n ≡ end → start ≤ i → length (found i) ≡ n
  range_len zero i last low = ap length (gather_end (is_kind (Some kind)) slots order i (λ j l m. range_over j (omega (arith, l, last)) m))
  range_len (suc n) i last low =
      let l : i < length order = omega (arith, last, end_within) in
      let held = held_at way slots order o i (get_or order i 0) l refl in
      ap length (gather_here (is_kind (Some kind)) slots order i held.0 l held.1 (range_covered i held.0 low (omega (arith, last)) held.1))
      ∙ ap suc (range_len n (i + 1) (omega (arith, last)) (omega (arith, low)))

  -- so many there are
  pub range_count : length (found 0) ≡ end - start
  range_count =
      ap length (gather_to (is_kind (Some kind)) slots order 0 start (omega arith) (rank_within way slots (kind, ([], [])) order) (start_none kind slots order))
      ∙ elim (cases_lt end start) [
        | inl l ↦ ap length (gather_end (is_kind (Some kind)) slots order start (λ j m k. range_over j (omega (arith, l, m)) k)) ∙ omega (arith, l)
        | inr g ↦ range_len (end - start) start (omega (arith, g)) (omega arith)
      ]
