-- How the order of values comes about, and what is found by it.
use Rattle.std.proofs.Common.{◌≡◌, true≢false, ◌<◌, ◌+◌, ℕ, zero, suc, Bool, true, false, List, [], ◌∷◌, map, length, get_or, refl, sym, ap, subst, ◌∙◌, arith, Bor, pos}
use Rattle.std.specs.Prelude.{vec_items, if◌then◌else◌}
use Rattle.std.specs.List.{AllAdjacentBelow, IsAllAdjacentAnswer, IsDistinct}
use Rattle.std.specs.Cmp.{on_total, IsTotalOrder}
use Rattle.std.specs.Fn.{Called, ComputesOnPairs}
use Rattle.std.specs.List.Sorted.{IsSortedBy}
use Rattle.std.specs.Ordering.{eq_by_cmp, int_cmp, is_lt, ordering_then}
use Rattle.std.specs.declared.cmp.Ordering.{Ordering}
use Rattle.std.specs.declared.cmp.Ordering.TheVariants.{Less, Equal, Greater}
use denote.Param.Members.{Mut}
use Rattle.std.proofs.lemmas.Fn.{always_returns_same}
use Rattle.std.proofs.lemmas.Map.Keys.{sorted_from_all_adjacent, IsDistinct-from_sorted}
use Rattle.attr_values.proofs.Ranks.{rank_order}
use Rattle.attr_values.specs.Ranks.{rank_cmp, rank_of, Rank}
use Rattle.attr_values.specs.declared.value.Value.{Value}
use Rattle.attr_values.specs.declared.value.Value.TheVariants as value
use Rattle.attr_list.specs.Gathering.{common_value, identity_value, IsIdentity}
use Rattle.attr_list.specs.Orders.{value_at}
use Rattle.attr_list.specs.declared.distinct.Identity.{Identity}
use Rattle.attr_list.specs.declared.distinct.Identity.TheVariants as identity
use Rattle.attr_list.specs.declared.order.Ranked.{Ranked}
use Rattle.attr_list.proofs.DistinctValues.{identity_cmp}

-- ---- the rank of an identity

abbrev pub identity_rank : Identity → Rank
identity_rank (identity.Bool b) = (0, if b then pos 1 else pos 0, [])
identity_rank (identity.Int n) = (1, n, [])
identity_rank (identity.Opaque bytes) = (2, pos 0, vec_items bytes)
identity_rank (identity.Text t) = (3, pos 0, t)

pub whole : (o : Ordering) → o ≡ ordering_then o Equal
whole Less = refl
whole Equal = refl
whole Greater = refl

pub rank-cmp-is : (i j : Identity) → identity_cmp i j ≡ rank_cmp (identity_rank i) (identity_rank j)
rank-cmp-is (identity.Bool true) (identity.Bool true) = refl
rank-cmp-is (identity.Bool true) (identity.Bool false) = refl
rank-cmp-is (identity.Bool false) (identity.Bool true) = refl
rank-cmp-is (identity.Bool false) (identity.Bool false) = refl
rank-cmp-is (identity.Int a) (identity.Int b) = whole (int_cmp a b)
rank-cmp-is (identity.Opaque a) (identity.Opaque b) = refl
rank-cmp-is (identity.Text a) (identity.Text b) = refl
rank-cmp-is _ _ = refl

-- the rank of a value of which a text is its own key
abbrev common_rank : Value → Rank
common_rank (value.Bool b) = (0, if b then pos 1 else pos 0, [])
common_rank (value.Int n) = (1, n, [])
common_rank (value.Opaque bytes) = (2, pos 0, bytes)
common_rank (value.Text t) = (3, pos 0, t)

of_identity : (i : Identity) → identity_rank i ≡ common_rank (identity_value i)
of_identity (identity.Bool b) = refl
of_identity (identity.Int n) = refl
of_identity (identity.Opaque bytes) = refl
of_identity (identity.Text t) = refl

of_value : (v : Value) → common_rank (common_value v) ≡ rank_of v
of_value (value.Bool b) = refl
of_value (value.Int n) = refl
of_value (value.Opaque bytes) = refl
of_value (value.Text t) = refl

pub rank-is : (i : Identity) (v : Value) → IsIdentity i v → identity_rank i ≡ rank_of v
rank-is i v is = of_identity i ∙ ap common_rank is ∙ of_value v

-- ---- sorted by a key, and sorted keys

module _ {X Y : Type 0} (f : X → Y) (lt : Y → Y → Bool) where
  next-map : (xs : List X) → ((k n : ℕ) (d : X) → n ≡ suc k → n < length xs → lt (f (get_or xs n d)) (f (get_or xs k d)) ≡ false)
      → (k n : ℕ) (d : Y) → n ≡ suc k → n < length (map f xs) → lt (get_or (map f xs) n d) (get_or (map f xs) k d) ≡ false
  next-map [] h k n d e b = absurd (omega (arith, b))
  next-map (x ∷ []) h k n d e b = absurd (omega (arith, e, b))
  next-map (x ∷ y ∷ xs) h k zero d e b = absurd (omega (arith, e))
  next-map (x ∷ y ∷ xs) h zero (suc zero) d e b = h 0 1 x refl (omega arith)
  next-map (x ∷ y ∷ xs) h zero (suc (suc n)) d e b = absurd (omega (arith, e))
  next-map (x ∷ y ∷ xs) h (suc k) (suc n) d e b =
      next-map (y ∷ xs) (λ j m c i q. h (suc j) (suc m) c (omega (arith, i)) (omega (arith, q))) k n d (omega (arith, e)) (omega (arith, b))

  pub sorted-map : (xs : List X) → IsSortedBy (λ x y. lt (f x) (f y)) xs → IsSortedBy lt (map f xs)
  sorted-map xs h k d a b =
      next-map xs (λ j m c i q. subst (λ (z : ℕ). lt (f (get_or xs z c)) (f (get_or xs j c)) ≡ false) {x = j + 1} {y = m} (omega (arith, i)) (h j c (omega arith) (omega (arith, i, q)))) k (k + 1) d (omega arith) b

-- ---- values with their identities

abbrev pub ranked_at : Ranked → Rank
ranked_at r = identity_rank r.identity

-- the identity is that of the value at the place
abbrev pub named_by : List Value → Ranked → Type 0
named_by vs r = IsIdentity r.identity (value_at vs r.place)

-- ---- values of which each stands before the next in that order

abbrev pub ranked_cmp : Ranked → Ranked → Ordering
ranked_cmp a b = rank_cmp (ranked_at a) (ranked_at b)

ranked_order : IsTotalOrder ranked_cmp
ranked_order = on_total ranked_at rank_order

less : (o : Ordering) → true ≡ is_lt o → o ≡ Less
less Less h = refl
less Equal h = absurd (true≢false h)
less Greater h = absurd (true≢false h)

where-told : {X : Type 0} (E : X → X → Bool → Type 0) (xs : List X) (r : Bool) → IsAllAdjacentAnswer E xs r → r ≡ true → AllAdjacentBelow (λ x y. E x y true) xs (length xs)
where-told E xs true h e = h
where-told E xs false h e = absurd (true≢false (sym e))

-- what a look at each two that follow each other ensures, where it tells that they rise
pub rising-by : {F : Type 0} {g : Mut F (Bor Ranked × (Bor Ranked × Unit {0})) Bool} {f : F} (rs : List Ranked) (r : Bool)
    → ((e : Ranked → Ranked → Bool) → ComputesOnPairs g e f → IsAllAdjacentAnswer (λ a b r. r ≡ e a b) rs r)
    → ((a : Bor Ranked × (Bor Ranked × Unit {0})) (r : Bool) (f' : F) → Called g f a r f' → (r ≡ is_lt (identity_cmp a.0.now.identity a.1.0.now.identity)) × (f' ≡ f))
    → r ≡ true → AllAdjacentBelow (λ a b. true ≡ is_lt (identity_cmp a.identity b.identity)) rs (length rs)
rising-by {g = g} {f = f} rs r told h =
    where-told (λ a b r. r ≡ is_lt (identity_cmp a.identity b.identity)) rs r
    (told (λ a b. is_lt (identity_cmp a.identity b.identity)) (always_returns_same g (λ a r. r ≡ is_lt (identity_cmp a.0.now.identity a.1.0.now.identity)) f h))

-- no two of what rises tie
pub rising-apart : (rs : List Ranked) → AllAdjacentBelow (λ a b. true ≡ is_lt (identity_cmp a.identity b.identity)) rs (length rs) → IsDistinct (eq_by_cmp ranked_cmp) rs
unfolding IsDistinct
rising-apart [] h = tt
rising-apart (r ∷ rs) h =
    IsDistinct-from_sorted ranked_cmp (r ∷ rs) (sorted_from_all_adjacent ranked_order (r ∷ rs) r
    (λ k b. sym (rank-cmp-is (get_or (r ∷ rs) k r).identity (get_or (r ∷ rs) (k + 1) r).identity) ∙ less _ (h k r b)))
