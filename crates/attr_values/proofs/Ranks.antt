-- The order of values is total, and kinds rise along it.
use Rattle.std.proofs.Common.{◌≡◌, ◌<◌, ◌≤◌, ◌+◌, ℕ, zero, suc, false, [], ◌∷◌, get_or, refl, ap, ◌∙◌, arith}
use mathlib.Core.Bool.{true≢false}
use Rattle.std.specs.Cmp.{int_cmp_total, nat_cmp_total, on_total, ranks, then_total, IsTotalOrder}
use Rattle.std.specs.Ordering.{is_gt, is_lt, nat_cmp, ordering_index, ordering_reverse, ordering_then, MatchOrdering}
use Rattle.std.specs.declared.cmp.Ordering.{Ordering}
use Rattle.std.specs.declared.cmp.Ordering.TheVariants.{Less, Equal, Greater}
use Rattle.std.proofs.lemmas.Cmp.{nat_list_cmp_total}
use Rattle.std.proofs.lemmas.List.Sorted.{searchable_from_sorted}
use Rattle.attr_values.specs.Ranks.{rank_cmp, rank_of, value_cmp, Rank}

pub rank_order : IsTotalOrder rank_cmp
rank_order = then_total (on_total (λ a. a.0) nat_cmp_total) (then_total (on_total (λ a. a.1) int_cmp_total) (on_total (λ a. a.2) nat_list_cmp_total))

pub value_order : IsTotalOrder value_cmp
value_order = on_total rank_of rank_order

two_sorted : (a b : Rank) → is_lt (rank_cmp b a) ≡ false → (k : ℕ) (d : Rank) → 0 ≤ k → k + 1 < 2 → is_lt (rank_cmp (get_or (a ∷ b ∷ []) (k + 1) d) (get_or (a ∷ b ∷ []) k d)) ≡ false
two_sorted a b h zero d p q = h
two_sorted a b h (suc k) d p q = absurd (omega (arith, q))

-- what is not before something stands as late to each rank
pub rank-rises : (a b x : Rank) → is_lt (rank_cmp b a) ≡ false → ordering_index (rank_cmp a x) ≤ ordering_index (rank_cmp b x)
rank-rises a b x h = searchable_from_sorted rank_order (λ y. y) (a ∷ b ∷ []) x (two_sorted a b h) 0 1 a (omega arith) (omega arith)

-- what is not before something is of its kind, or of a later one
pub kind-rises : (a b : Rank) → is_lt (rank_cmp b a) ≡ false → a.0 ≤ b.0
kind-rises a b h = by _ (nat_cmp b.0 a.0) (ranks b.0 a.0) h
  where
    by : (o p : Ordering) → MatchOrdering p (b.0 < a.0) (b.0 ≡ a.0) (a.0 < b.0) → is_lt (ordering_then p o) ≡ false → a.0 ≤ b.0
    by o Less m h = absurd (true≢false h)
    by o Equal m h = omega (arith, m)
    by o Greater m h = omega (arith, m)

turned : (o : Ordering) → is_lt (ordering_reverse o) ≡ is_gt o
turned Less = refl
turned Equal = refl
turned Greater = refl

-- what is not behind something is of its kind, or of an earlier one
pub kind-falls : (a b : Rank) → is_gt (rank_cmp a b) ≡ false → a.0 ≤ b.0
kind-falls a b h = kind-rises a b (ap is_lt (rank_order.antisymm b a) ∙ turned (rank_cmp a b) ∙ h)
