-- The order by type gives entries in the key order of their types.
use Rattle.std.proofs.Common.{◌≡◌, true, ℕ, List, [], ◌∷◌, Option, Some, None, ap, inl, inr}
use Rattle.std.specs.List.{AllByRecursion}
use Rattle.std.specs.Ordering.{is_le}
use Rattle.std.specs.declared.cmp.Ordering.TheVariants.{Less}
use Rattle.slp_text.specs.Words.{bytes_cmp}
use Rattle.registry_core.specs.declared.entry.Entry.{Entry}
use Rattle.registry_core.specs.Entries.{pair_cmp, if_kept, is_kind, AreByType}
use Rattle.registry_slots.specs.declared.orders.By.TheVariants as by
use Rattle.registry_slots.specs.Orders.{Above, Rank, Rising, rank_cmp, rank_in, rank_of}
use Rattle.registry_slots.specs.Slots.{slot_at, gathered, prepend}
use Rattle.table_registry.proofs.Along.{first_less}

-- what ranks before another has no greater front
rank-front : (p q : Rank) → rank_cmp p q ≡ Less → is_le (bytes_cmp p.0 q.0) ≡ true
rank-front p q h = elim (first_less (bytes_cmp p.0 q.0) (pair_cmp p.1 q.1) h) [ inl l ↦ ap is_le l | inr s ↦ ap is_le s ]

module _ (slots : List (Option Entry)) where
  abbrev entries_at : List ℕ → List Entry
  entries_at order = gathered (λ x. if_kept (is_kind None) (slot_at slots x)) order

  above-kinds : (p : Rank) (xs : List ℕ) → Above by.Kind slots p xs → AllByRecursion (λ f. is_le (bytes_cmp p.0 f.kind) ≡ true) (entries_at xs)
  above-kinds p [] a = tt
  above-kinds p (x ∷ xs) a =
      elim (slot_at slots x) as (λ s. rank_cmp p (rank_in by.Kind s) ≡ Less → AllByRecursion (λ f. is_le (bytes_cmp p.0 f.kind) ≡ true) (prepend (if_kept (is_kind None) s) (entries_at xs))) [
        | None ↦ λ l. above-kinds p xs a.1
        | Some f ↦ λ l. (rank-front p (rank_of by.Kind f) l, above-kinds p xs a.1)
      ] a.0

  pub rising-kinds : (xs : List ℕ) → Rising by.Kind slots xs → AreByType (entries_at xs)
  rising-kinds [] r = tt
  rising-kinds (x ∷ xs) r =
      elim (slot_at slots x) as (λ s. Above by.Kind slots (rank_in by.Kind s) xs → AreByType (prepend (if_kept (is_kind None) s) (entries_at xs))) [
        | None ↦ λ a. rising-kinds xs r.1
        | Some f ↦ λ a. (above-kinds (rank_of by.Kind f) xs a, rising-kinds xs r.1)
      ] r.0
