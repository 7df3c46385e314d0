-- What is kept of values of which some are the same, and its order.
use Rattle.std.proofs.Common.{◌≡◌, cond, true≢false, ◌<◌, ◌≤◌, ◌+◌, ℕ, zero, suc, Bool, true, false, List, [], ◌∷◌, ◌++◌, map, take, drop, length, get_or, set, refl, sym, ap, ap₂, subst, ◌∙◌, arith, inl, inr, append_assoc, append-nil}
use Rattle.std.specs.Prelude.{filter, not}
use Rattle.std.specs.List.{list_any, range_with_len, swap, AllByRecursion}
use Rattle.std.specs.List.Sorted.{IsPermutation}
use Rattle.std.specs.Ordering.{is_lt}
use Rattle.std.proofs.lemmas.Bool.{cases_lt}
use Rattle.std.proofs.lemmas.List.{get_or_append_left, get_or_default, length-append, map_push, take-append-drop, take_more}
use Rattle.std.proofs.lemmas.List.Elements.{filter-append, recursion_from_All}
use Rattle.std.proofs.lemmas.List.Kept.{IsSortedBy-filter}
use Rattle.std.proofs.lemmas.List.Sorted.{ranks_by, IsPermutation-append_comm, IsPermutation-append_left, IsPermutation-append_right, IsPermutation-keeps, IsPermutation-map, IsPermutation-refl, IsPermutation-trans}
use Rattle.std.proofs.Math.Seq.{get_or-append_seam}
use Rattle.attr_values.specs.declared.value.Value.{Value}
use Rattle.attr_values.specs.declared.value.Value.TheVariants as value
use Rattle.attr_list.specs.Gathering.{place_cmp, AreFirsts, AreInOrder, AreNewPlaces}
use Rattle.attr_list.specs.Lists.{distinct_values, is_same}
use Rattle.attr_list.specs.Orders.{value_at, IsOrder}
use Rattle.attr_list.specs.declared.order.Ranked.{Ranked}
use Rattle.attr_list.proofs.DistinctValues.{distinct-more, kept-more}
use Rattle.attr_list.proofs.FirstValues.{below}
use Rattle.attr_list.proofs.PlacesInOrder.{order-kept, place_order, range-more}

-- ---- a filter of the same elements in another order

module _ {X : Type 0} (p : X → Bool) where
  one : X → List X
  one x = cond (p x) (x ∷ []) []

  filter-one : (x : X) (xs : List X) → filter p (x ∷ xs) ≡ one x ++ filter p xs
  unfolding one
  filter-one x xs = elim (p x) as (λ b. cond b (x ∷ filter p xs) (filter p xs) ≡ cond b (x ∷ []) [] ++ filter p xs) [ true ↦ refl | false ↦ refl ]

  under : (x : X) (xs ys : List X) → IsPermutation (filter p xs) (filter p ys) → IsPermutation (filter p (x ∷ xs)) (filter p (x ∷ ys))
  under x xs ys h = rw (filter-one x xs, filter-one x ys) (IsPermutation-append_right (one x) _ _ h)

  turned : (x y : X) (xs : List X) → IsPermutation (filter p (x ∷ y ∷ xs)) (filter p (y ∷ x ∷ xs))
  turned x y xs =
      let first : filter p (x ∷ y ∷ xs) ≡ (one x ++ one y) ++ filter p xs = filter-one x (y ∷ xs) ∙ ap (λ l. one x ++ l) (filter-one y xs) ∙ sym (append_assoc (one x) (one y) (filter p xs)) in
      let second : filter p (y ∷ x ∷ xs) ≡ (one y ++ one x) ++ filter p xs = filter-one y (x ∷ xs) ∙ ap (λ l. one y ++ l) (filter-one x xs) ∙ sym (append_assoc (one y) (one x) (filter p xs)) in
      rw (first, second) (IsPermutation-append_left (filter p xs) _ _ (IsPermutation-append_comm (one x) (one y)))

  to_head : (l : List X) (j : ℕ) (x d : X) → j < length l → IsPermutation (filter p (x ∷ l)) (filter p (get_or l j d ∷ set l j x))
  to_head [] j x d h = absurd (omega arith)
  to_head (y ∷ l) zero x d h = turned x y l
  to_head (y ∷ l) (suc j) x d h =
      IsPermutation-trans _ _ _ (turned x y l) (IsPermutation-trans _ _ _ (under y (x ∷ l) (get_or l j d ∷ set l j x) (to_head l j x d (omega arith))) (turned y (get_or l j d) (set l j x)))

  exchanged : (l : List X) (i j : ℕ) (d : X) → i < length l → j < length l → IsPermutation (filter p l) (filter p (set (set l i (get_or l j d)) j (get_or l i d)))
  exchanged [] i j d a b = absurd (omega arith)
  exchanged (x ∷ l) zero zero d a b = IsPermutation-refl _
  exchanged (x ∷ l) zero (suc j) d a b = to_head l j x d (omega arith)
  exchanged (x ∷ l) (suc i) zero d a b = to_head l i x d (omega arith)
  exchanged (x ∷ l) (suc i) (suc j) d a b = under x l (set (set l i (get_or l j d)) j (get_or l i d)) (exchanged l i j d (omega arith) (omega arith))

  swapped : (l : List X) (i j : ℕ) → i < length l → j < length l → IsPermutation (filter p l) (filter p (swap l i j))
  swapped [] i j a b = IsPermutation-refl _
  swapped (x ∷ l) i j a b = exchanged (x ∷ l) i j x a b

  pub filter-permutation : (xs ys : List X) → IsPermutation xs ys → IsPermutation (filter p xs) (filter p ys)
  filter-permutation xs ys = IsPermutation-keeps xs (λ l. IsPermutation (filter p xs) (filter p l)) (IsPermutation-refl _) (λ l i j a b h. IsPermutation-trans _ _ _ h (swapped l i j a b)) ys

-- ---- how many are kept

filter-shorter : (p : Value → Bool) (xs : List Value) → length (filter p xs) ≤ length xs
filter-shorter p [] = omega arith
filter-shorter p (x ∷ xs) =
    let shorter = filter-shorter p xs in
    elim (p x) as (λ b. length (cond b (x ∷ filter p xs) (filter p xs)) ≤ length (x ∷ xs)) [ true ↦ omega (arith, shorter) | false ↦ omega (arith, shorter) ]

pub distinct-shorter : (xs : List Value) → length (distinct_values xs) ≤ length xs
distinct-shorter [] = omega arith
distinct-shorter (x ∷ xs) = omega (arith, filter-shorter (λ w. not (is_same x w)) (distinct_values xs), distinct-shorter xs)

-- what is kept of later values
rest : List Value → List Value → List Value
rest [] ys = distinct_values ys
rest (x ∷ xs) ys = filter (λ w. not (is_same x w)) (rest xs ys)

distinct-append : (xs ys : List Value) → distinct_values (xs ++ ys) ≡ distinct_values xs ++ rest xs ys
unfolding rest
distinct-append [] ys = refl
distinct-append (x ∷ xs) ys =
    ap (λ ws. x ∷ ws) (ap (filter (λ w. not (is_same x w))) (distinct-append xs ys) ∙ filter-append (λ w. not (is_same x w)) (distinct_values xs) (rest xs ys))

-- ---- values of which it is told whether they are the first

module _ (vs : List Value) (firsts : List Bool) (told : AreFirsts vs firsts) where
  abbrev pub is_first : ℕ → Bool
  is_first p = get_or firsts p true

  -- a value more
  pub kept-one : (done kept after : List Value) (v : Value) (wanted : Bool) → done ≡ take (length done) vs → length done < length vs → v ≡ get_or vs (length done) v → kept ≡ distinct_values done
      → wanted ≡ is_first (length done) → after ≡ cond wanted (kept ++ v ∷ []) kept → after ≡ distinct_values (done ++ v ∷ [])
  kept-one done kept after v wanted front b at k is e =
      let same : value_at vs (length done) ≡ v = get_or_default vs (length done) (value.Bool false) v b ∙ sym at in
      kept-more done kept after v wanted (list_any (λ u. is_same u v) done) k refl (is ∙ told.told (length done) b ∙ ap₂ (λ w us. not (list_any (λ u. is_same u w) us)) same (sym front)) e

  parted : (b : Bool) (ps : List ℕ) (p : ℕ) → map (value_at vs) (ps ++ cond b (p ∷ []) []) ≡ cond b (map (value_at vs) ps ++ value_at vs p ∷ []) (map (value_at vs) ps)
  parted true ps p = map_push (value_at vs) ps p
  parted false ps p = ap (map (value_at vs)) (append-nil ps)

  front-kept : (n : ℕ) → n ≤ length vs → map (value_at vs) (filter is_first (range_with_len 0 n)) ≡ distinct_values (take n vs)
  front-kept zero b = refl
  front-kept (suc n) b =
      let before = range_with_len 0 n in
      let next : n + 1 ≡ suc n = omega arith in
      let within : n < length vs = omega (arith, b) in
      let more : map (value_at vs) (filter is_first (range_with_len 0 (n + 1))) ≡ cond (is_first n) (map (value_at vs) (filter is_first before) ++ value_at vs n ∷ []) (map (value_at vs) (filter is_first before)) =
      ap (λ ps. map (value_at vs) (filter is_first ps)) (range-more n) ∙ ap (map (value_at vs)) (filter-append is_first before (n ∷ [])) ∙ parted (is_first n) (filter is_first before) n in
      let is = kept-more (take n vs) (map (value_at vs) (filter is_first before)) (map (value_at vs) (filter is_first (range_with_len 0 (n + 1)))) (value_at vs n) (is_first n)
      (list_any (λ u. is_same u (value_at vs n)) (take n vs)) (front-kept n (omega (arith, b))) refl (told.told n within) more in
      subst (λ m. map (value_at vs) (filter is_first (range_with_len 0 m)) ≡ distinct_values (take m vs)) next (is ∙ ap distinct_values (sym (take_more vs n (value.Bool false) within)))

  all-kept : map (value_at vs) (filter is_first (range_with_len 0 (length vs))) ≡ distinct_values vs
  all-kept = front-kept (length vs) (omega arith) ∙ ap distinct_values (take-all vs)
    where
      take-all : (xs : List Value) → take (length xs) xs ≡ xs
      take-all [] = refl
      take-all (x ∷ xs) = ap (λ ys. x ∷ ys) (take-all xs)

  -- where a first stands once the others are left out
  new-place : (p : ℕ) → p < length vs → is_first p ≡ true → value_at (distinct_values vs) (length (distinct_values (take p vs))) ≡ value_at vs p
  new-place p b f =
      let d = value.Bool false in
      let v = value_at vs p in
      let done = distinct_values (take p vs) in
      let new : list_any (λ u. is_same u v) (take p vs) ≡ false = unseen (list_any (λ u. is_same u v) (take p vs)) (sym (told.told p b) ∙ f) in
      let more : distinct_values (take (p + 1) vs) ≡ done ++ v ∷ [] = ap distinct_values (take_more vs p d b) ∙ distinct-more (take p vs) v ∙ ap (λ b. cond b done (done ++ v ∷ [])) new in
      let whole : distinct_values vs ≡ (done ++ v ∷ []) ++ rest (take (p + 1) vs) (drop (p + 1) vs) =
      ap distinct_values (sym (take-append-drop (p + 1) vs)) ∙ distinct-append (take (p + 1) vs) (drop (p + 1) vs) ∙ ap (λ ws. ws ++ rest (take (p + 1) vs) (drop (p + 1) vs)) more in
      ap (λ ws. get_or ws (length done) d) whole ∙ get_or_append_left (done ++ v ∷ []) (rest (take (p + 1) vs) (drop (p + 1) vs)) d (length done) (omega (arith, length-append done (v ∷ []))) ∙ get_or-append_seam done v [] d
    where
      unseen : (b : Bool) → not b ≡ true → b ≡ false
      unseen true h = absurd (true≢false (sym h))
      unseen false h = refl

  module _ (places : List ℕ) (new : AreNewPlaces vs places) where
    one-moved : (p : ℕ) (ps : List ℕ) (b : Bool) → is_first p ≡ b → p < length vs → map (value_at (distinct_values vs)) (map (λ p. get_or places p 0) ps) ≡ map (value_at vs) ps
        → map (value_at (distinct_values vs)) (map (λ p. get_or places p 0) (cond b (p ∷ ps) ps)) ≡ map (value_at vs) (cond b (p ∷ ps) ps)
    one-moved p ps true f b h = ap₂ (λ v ws. v ∷ ws) (ap (value_at (distinct_values vs)) (new.told p b) ∙ new-place p b f) h
    one-moved p ps false f b h = h

    moved : (ps : List ℕ) → AllByRecursion (λ p. p < length vs) ps → map (value_at (distinct_values vs)) (map (λ p. get_or places p 0) (filter is_first ps)) ≡ map (value_at vs) (filter is_first ps)
    moved [] h = refl
    moved (p ∷ ps) h = one-moved p (filter is_first ps) (is_first p) refl h.0 (moved ps h.1)

    -- the new places of the firsts, in the order of all, are their order
    pub order-of-firsts : (rs : List Ranked) → AreInOrder vs rs → IsOrder (distinct_values vs) (map (λ p. get_or places p 0) (filter is_first (map (λ r. r.place) rs)))
    order-of-firsts rs h =
        let ps = map (λ (r : Ranked). r.place) rs in
        let all = range_with_len 0 (length vs) in
        order-kept vs (distinct_values vs) (filter is_first ps) (map (λ p. get_or places p 0) (filter is_first ps))
        (subst (λ ws. IsPermutation ws (map (value_at vs) (filter is_first ps))) all-kept (IsPermutation-map (value_at vs) (filter is_first all) (filter is_first ps) (filter-permutation is_first all ps h.each)))
        (IsSortedBy-filter (λ p q. is_lt (place_cmp vs p q)) (ranks_by (place_order vs) (λ p. p)) is_first ps h.sorted)
        (moved ps (recursion_from_All (λ p. p < length vs) ps (below vs ps h.each)))

-- ---- the places that are told

-- a place more
pub places-one : (vs done kept : List Value) (places : List ℕ) (v : Value) → done ≡ take (length done) vs → length places ≡ length done → kept ≡ distinct_values done
    → ((p : ℕ) → p < length done → get_or places p 0 ≡ length (distinct_values (take p vs)))
    → (p : ℕ) → p < length (done ++ v ∷ []) → get_or (places ++ length kept ∷ []) p 0 ≡ length (distinct_values (take p vs))
places-one vs done kept places v front count k h p b = elim (cases_lt p (length done)) [
  | inl less ↦ get_or_append_left places (length kept ∷ []) 0 p (omega (arith, less, count)) ∙ h p less
  | inr most ↦
      let is : length places ≡ p = omega (arith, b, most, count, length-append done (v ∷ [])) in
      let now : length done ≡ p = omega (arith, is, count) in
      ap (λ n. get_or (places ++ length kept ∷ []) n 0) (sym is) ∙ get_or-append_seam places (length kept) [] 0 ∙ ap length (k ∙ ap distinct_values (front ∙ ap (λ n. take n vs) now))
]
