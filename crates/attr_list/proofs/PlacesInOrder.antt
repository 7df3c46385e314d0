-- The places of values in their order.
use Rattle.std.proofs.Common.{◌≡◌, cond, ◌+◌, ℕ, zero, suc, Bool, true, false, List, [], ◌∷◌, ◌++◌, map, length, get_or, refl, sym, ap, ap₂, subst, ◌∙◌, arith, Bor}
use Rattle.std.specs.Prelude.{filter, not}
use Rattle.std.specs.Cmp.{on_total, IsStrictWeakOrder, IsTotalOrder}
use Rattle.std.specs.Cmp.Lexicographic.{texts_ties}
use Rattle.std.specs.Fn.{Called, ComparesAs}
use Rattle.std.specs.List.{range_with_len, AllAdjacentBelow, AllByRecursion, IsDistinct}
use Rattle.std.specs.List.Sorted.{IsPermutation, IsSorted, IsSortedBy}
use Rattle.std.specs.Ordering.{eq_by_cmp, int_cmp, is_eq, is_lt}
use Rattle.std.specs.declared.cmp.Ordering.{Ordering}
use denote.Param.Members.{Mut}
use Rattle.std.proofs.lemmas.Cmp.{eq_by_cmp_equiv}
use Rattle.std.proofs.lemmas.Fn.{always_returns_same}
use Rattle.std.proofs.lemmas.List.FromFn.{fill_by_all}
use Rattle.std.proofs.lemmas.List.Elements.{All-from_recursion, recursion_from_All}
use Rattle.std.proofs.lemmas.List.Sorted.{ranks_by, All-permutation, IsPermutation-map, IsPermutation-sym}
use Rattle.std.proofs.lemmas.Map.Keys.{IsDistinct-IsPermutation}
use Rattle.slp_text.specs.Keys.{key_of}
use Rattle.attr_values.proofs.Ranks.{rank_order, value_order}
use Rattle.attr_values.specs.Ranks.{rank_cmp, value_cmp}
use Rattle.attr_values.specs.declared.value.Value.{Value}
use Rattle.attr_values.specs.declared.value.Value.TheVariants as value
use Rattle.attr_list.specs.Gathering.{place_cmp, AreInOrder, AreRanked}
use Rattle.attr_list.specs.Lists.{distinct_values, is_same}
use Rattle.attr_list.specs.Orders.{value_at, IsOrder}
use Rattle.attr_list.specs.declared.order.Ranked.{Ranked}
use Rattle.attr_list.proofs.DistinctValues.{identity_cmp}
use Rattle.attr_list.proofs.OrderedValues.{named_by, rank-cmp-is, rank-is, ranked_at, ranked_cmp, rising-apart, sorted-map, whole}

-- ---- values that are the same

pub same-ties : (v w : Value) → is_same v w ≡ is_eq (value_cmp v w)
same-ties (value.Bool true) (value.Bool true) = refl
same-ties (value.Bool true) (value.Bool false) = refl
same-ties (value.Bool false) (value.Bool true) = refl
same-ties (value.Bool false) (value.Bool false) = refl
same-ties (value.Int a) (value.Int b) = ap is_eq (whole (int_cmp a b))
same-ties (value.Opaque a) (value.Opaque b) = texts_ties a b
same-ties (value.Text a) (value.Text b) = texts_ties (key_of a) (key_of b)
same-ties _ _ = refl

-- ---- what a sort by identities and places ensures

pub sorted-by : {F : Type 0} {g : Mut F (Bor Ranked × (Bor Ranked × Unit {0})) Ordering} {f : F} (rs : List Ranked)
    → ((lt : Ranked → Ranked → Bool) → IsStrictWeakOrder lt → ComparesAs g lt f → IsSortedBy lt rs)
    → ((a : Bor Ranked × (Bor Ranked × Unit {0})) (r : Ordering) (f' : F) → Called g f a r f' → (r ≡ identity_cmp a.0.now.identity a.1.0.now.identity) × (f' ≡ f))
    → IsSortedBy (λ a b. is_lt (rank_cmp (ranked_at a) (ranked_at b))) rs
sorted-by {g = g} {f = f} rs up h =
    up (λ a b. is_lt (rank_cmp (ranked_at a) (ranked_at b))) (ranks_by rank_order ranked_at)
    (always_returns_same g (λ a r. is_lt r ≡ is_lt (rank_cmp (ranked_at a.0.now) (ranked_at a.1.0.now))) f
    (λ a r f' k. (ap is_lt ((h a r f' k).0 ∙ rank-cmp-is a.0.now.identity a.1.0.now.identity), (h a r f' k).1)))

module _ (vs : List Value) where
  pub place_order : IsTotalOrder (place_cmp vs)
  place_order = on_total (value_at vs) value_order

  pub in-order : (before after : List Ranked) → AreRanked vs before → map (λ r. r.place) before ≡ range_with_len 0 (length vs) → IsPermutation before after
      → IsSortedBy (λ a b. is_lt (rank_cmp (ranked_at a) (ranked_at b))) after → AreInOrder vs after
  in-order before after ranked places moved sorted =
      let all = All-permutation (named_by vs) before after moved (All-from_recursion (named_by vs) before ranked) in
      record {
        ranked = recursion_from_All (named_by vs) after all;
        each = subst (λ ps. IsPermutation ps (map (λ r. r.place) after)) places (IsPermutation-map (λ r. r.place) before after moved);
        sorted = sorted-map (λ r. r.place) (λ p q. is_lt (place_cmp vs p q)) after (λ k d a b.
            let r = get_or after k d in
            let s = get_or after (k + 1) d in
            ap₂ (λ x y. is_lt (rank_cmp x y)) (sym (rank-is s.identity (value_at vs s.place) (all (k + 1) d b))) (sym (rank-is r.identity (value_at vs r.place) (all k d (omega (arith, b)))))
            ∙ sorted k d a b);
      }

  pub at-all : map (value_at vs) (range_with_len 0 (length vs)) ≡ vs
  at-all = sym (fill_by_all (value_at vs) vs (length vs) (value.Bool false) refl (λ k b. refl))

  -- values of some places, of which the order is known
  pub order-kept : (kept : List Value) (ps places : List ℕ) → IsPermutation kept (map (value_at vs) ps) → IsSorted (place_cmp vs) ps → map (value_at kept) places ≡ map (value_at vs) ps
      → IsOrder kept places
  order-kept kept ps places each sorted is = record {
    each = subst (IsPermutation kept) (sym is) each;
    sorted = subst (IsSorted value_cmp) (sym is) (sorted-map (value_at vs) (λ v w. is_lt (value_cmp v w)) ps sorted);
  }

  pub order-is : (rs : List Ranked) → AreInOrder vs rs → IsOrder vs (map (λ r. r.place) rs)
  order-is rs h =
      let ps = map (λ (r : Ranked). r.place) rs in
      order-kept vs ps ps (subst (λ xs. IsPermutation xs (map (value_at vs) ps)) at-all (IsPermutation-map (value_at vs) _ ps h.each)) h.sorted refl

  -- ---- values of which each stands before the next

  unlike : (p : ℕ) (ps : List ℕ) → AllByRecursion (λ q. eq_by_cmp (place_cmp vs) p q ≡ false) ps → filter (λ w. not (is_same (value_at vs p) w)) (map (value_at vs) ps) ≡ map (value_at vs) ps
  unlike p [] d = refl
  unlike p (q ∷ ps) d =
      let rest = filter (λ w. not (is_same (value_at vs p) w)) (map (value_at vs) ps) in
      ap (λ b. cond (not b) (value_at vs q ∷ rest) rest) (same-ties (value_at vs p) (value_at vs q) ∙ d.0) ∙ ap (λ ws. value_at vs q ∷ ws) (unlike p ps d.1)

  all-kept : (ps : List ℕ) → IsDistinct (eq_by_cmp (place_cmp vs)) ps → distinct_values (map (value_at vs) ps) ≡ map (value_at vs) ps
  unfolding IsDistinct
  all-kept [] d = refl
  all-kept (p ∷ ps) d = ap (λ ws. value_at vs p ∷ ws) (ap (filter (λ w. not (is_same (value_at vs p) w))) (all-kept ps d.1) ∙ unlike p ps d.0)

  others : (r : Ranked) (rs : List Ranked) → named_by vs r → AreRanked vs rs → AllByRecursion (λ s. eq_by_cmp ranked_cmp r s ≡ false) rs → AllByRecursion (λ q. eq_by_cmp (place_cmp vs) r.place q ≡ false) (map (λ s. s.place) rs)
  others r [] n h d = tt
  others r (s ∷ rs) n h d =
      (ap₂ (λ x y. is_eq (rank_cmp x y)) (sym (rank-is r.identity (value_at vs r.place) n)) (sym (rank-is s.identity (value_at vs s.place) h.0)) ∙ d.0, others r rs n h.1 d.1)

  places-apart : (rs : List Ranked) → AreRanked vs rs → IsDistinct (eq_by_cmp ranked_cmp) rs → IsDistinct (eq_by_cmp (place_cmp vs)) (map (λ r. r.place) rs)
  unfolding IsDistinct
  places-apart [] h d = tt
  places-apart (r ∷ rs) h d = (others r rs h.0 h.1 d.0, places-apart rs h.1 d.1)

  -- values whose identities rise, once they are in order, are kept, all of them
  pub apart-kept : (rs : List Ranked) → AreInOrder vs rs → AllAdjacentBelow (λ a b. true ≡ is_lt (identity_cmp a.identity b.identity)) rs (length rs) → distinct_values vs ≡ vs
  apart-kept rs h rising =
      let ps = map (λ (r : Ranked). r.place) rs in
      let all = range_with_len 0 (length vs) in
      let apart = IsDistinct-IsPermutation (eq_by_cmp (place_cmp vs)) (eq_by_cmp_equiv place_order).symm ps all (IsPermutation-sym all ps h.each) (places-apart rs h.ranked (rising-apart rs rising)) in
      ap distinct_values (sym at-all) ∙ all-kept all apart ∙ at-all

-- ---- places from the first on

pub range-more : (n : ℕ) → range_with_len 0 (n + 1) ≡ range_with_len 0 n ++ n ∷ []
range-more n = last 0 n n (omega arith)
  where
    last : (a n j : ℕ) → a + n ≡ j → range_with_len a (n + 1) ≡ range_with_len a n ++ j ∷ []
    last a n j e = more a n j e (n + 1) (omega arith)
      where
        more : (a n j : ℕ) → a + n ≡ j → (m : ℕ) → m ≡ suc n → range_with_len a m ≡ range_with_len a n ++ j ∷ []
        more a zero j e m is = ap (range_with_len a) is ∙ ap (λ k. k ∷ []) {x = a} {y = j} (omega (arith, e))
        more a (suc n) j e m is = ap (range_with_len a) is ∙ ap (λ l. a ∷ l) (more (a + 1) n j (omega (arith, e)) (suc n) refl)
