-- Items that stand in the order of their keys: where a key is found, and where it is put.
use Rattle.std.proofs.Common.{◌≡◌, ℕ, zero, suc, inl, inr, ◌<◌, ◌≤◌, Bool, true, false, cond, T, List, [], ◌∷◌, ◌++◌, map, take, drop, length, get_or, Some, None, Result, Ok, Err, refl, sym, ap, subst, ◌∙◌, arith}
use Rattle.std.specs.Prelude.{◌⊎◌, ◌&&◌}
use Rattle.std.proofs.lemmas.Bool.{cases_lt}
use Rattle.std.specs.Cmp.{IsTotalOrder}
use Rattle.std.specs.FinMap as fin
use Rattle.std.specs.FinMap.Entries.{below_all, by_order, is_sorted-put}
use Rattle.std.specs.List.{HoldsAt}
use Rattle.std.specs.List.Sorted.{IsBinarySearchResult, IsNonDecreasingBy, IsPartitionPoint, IsSearchInRange}
use Rattle.std.specs.Ordering.{is_lt, is_eq, ordering_index, ordering_reverse, eq_by_cmp}
use Rattle.std.specs.declared.cmp.Ordering.{Ordering}
use Rattle.std.specs.declared.cmp.Ordering.TheVariants.{Less, Equal, Greater}
use Rattle.std.proofs.lemmas.Cmp.{nat_list_cmp_total}
use Rattle.slp_text.specs.Words.{bytes_cmp}

pub ordered : IsTotalOrder bytes_cmp
ordered = nat_list_cmp_total

before_second : (a b : Bool) → T (a && b) → T b
before_second true b p = p
before_second false b p = absurd p

before_first : (a b : Bool) → T (a && b) → T a
before_first true b p = tt
before_first false b p = p

pub less : (o : Ordering) → T (is_lt o) → o ≡ Less
less Less p = refl
less Equal p = absurd p
less Greater p = absurd p

-- what is below something is below all that this is below, or ties with
index_rises : (x y q : List ℕ) (o p : Ordering) → bytes_cmp x y ≡ Less → bytes_cmp x q ≡ o → bytes_cmp y q ≡ p → ordering_index o ≤ ordering_index p
index_rises x y q Less p l a b = omega arith
index_rises x y q Equal p l a b =
    let turned : bytes_cmp y q ≡ Greater = ordered.antisymm y q ∙ ap ordering_reverse (sym (ordered.congr x q y a) ∙ l) in
    subst (λ o. ordering_index Equal ≤ ordering_index o) (sym turned ∙ b) (omega arith)
index_rises x y q Greater p l a b =
    let under : bytes_cmp q x ≡ Less = ordered.antisymm q x ∙ ap ordering_reverse a in
    let turned : bytes_cmp y q ≡ Greater = ordered.antisymm y q ∙ ap ordering_reverse (ordered.trans q x y under l) in
    subst (λ o. ordering_index Greater ≤ ordering_index o) (sym turned ∙ b) (omega arith)

apart : (o : Ordering) → (o ≡ Less) ⊎ (o ≡ Greater) → is_eq (ordering_reverse o) ≡ false
apart o (inl e) = ap (λ p. is_eq (ordering_reverse p)) e
apart o (inr e) = ap (λ p. is_eq (ordering_reverse p)) e

-- items with their keys, and what is kept at each
module _ {A X : Type 0} (key : A → List ℕ) (kept : A → X) where
  abbrev pub pairs_by : List A → List (List ℕ × X)
  pairs_by = map (λ a. (key a, kept a))

  -- an item comes before each one that follows it
  below_at : (x : List ℕ) (list : List A) (i : ℕ) (d : A) → T (below_all bytes_cmp x (pairs_by list)) → i < length list → bytes_cmp x (key (get_or list i d)) ≡ Less
  below_at x [] i d h k = absurd (omega (arith, k))
  below_at x (a ∷ list) zero d h k = less _ (before_first _ _ h)
  below_at x (a ∷ list) (suc i) d h k = below_at x list i d (before_second _ _ h) (omega (arith, k))

  rises : (list : List A) (q : List ℕ) → T (fin.is_sorted bytes_cmp (pairs_by list)) → IsNonDecreasingBy (λ a. ordering_index (bytes_cmp (key a) q)) list
  rises [] q s i j d le k = absurd (omega (arith, k))
  rises (a ∷ list) q s zero zero d le k = omega arith
  rises (a ∷ list) q s zero (suc j) d le k = index_rises (key a) (key (get_or list j d)) q _ _ (below_at (key a) list j d (before_first _ _ s) (omega (arith, k))) refl refl
  rises (a ∷ list) q s (suc i) zero d le k = absurd (omega (arith, le))
  rises (a ∷ list) q s (suc i) (suc j) d le k = rises list q (before_second _ _ s) i j d (omega (arith, le)) (omega (arith, k))

  -- the item at a place is found
  found_at : (list : List A) (q : List ℕ) (i : ℕ) (d : A) → T (fin.is_sorted bytes_cmp (pairs_by list)) → i < length list → bytes_cmp (key (get_or list i d)) q ≡ Equal
      → fin.find bytes_cmp q (pairs_by list) ≡ Some (kept (get_or list i d))
  found_at [] q i d s k e = absurd (omega (arith, k))
  found_at (a ∷ list) q zero d s k e =
      let turned : bytes_cmp q (key a) ≡ Equal = ordered.antisymm q (key a) ∙ ap ordering_reverse e in
      ap (λ o. cond (is_eq o) (Some (kept a)) (fin.find bytes_cmp q (pairs_by list))) turned
  found_at (a ∷ list) q (suc i) d s k e =
      let t = (key (get_or list i d)) in
      let under : bytes_cmp (key a) t ≡ Less = below_at (key a) list i d (before_first _ _ s) (omega (arith, k)) in
      let turned : bytes_cmp q (key a) ≡ Greater = sym (ordered.congr t q (key a) e) ∙ ordered.antisymm t (key a) ∙ ap ordering_reverse under in
      ap (λ o. cond (is_eq o) (Some (kept a)) (fin.find bytes_cmp q (pairs_by list))) turned ∙ found_at list q i d (before_second _ _ s) (omega (arith, k)) e

  -- a key that ties with none is not found
  found_nowhere : (list : List A) (q : List ℕ) → ((i : ℕ) (d : A) → i < length list → (bytes_cmp (key (get_or list i d)) q ≡ Less) ⊎ (bytes_cmp (key (get_or list i d)) q ≡ Greater))
      → fin.find bytes_cmp q (pairs_by list) ≡ None
  found_nowhere [] q h = refl
  found_nowhere (a ∷ list) q h =
      let other : eq_by_cmp bytes_cmp q (key a) ≡ false = ap is_eq (ordered.antisymm q (key a)) ∙ apart _ (h 0 a (omega arith)) in
      ap (λ b. cond b (Some (kept a)) (fin.find bytes_cmp q (pairs_by list))) other ∙ found_nowhere list q (λ i d k. h (suc i) d (omega (arith, k)))

  side : (list : List A) (q : List ℕ) (at : ℕ) → IsPartitionPoint (λ y. bytes_cmp (key y) q ≡ Less) (λ y. bytes_cmp (key y) q ≡ Greater) list at
      → (i : ℕ) (d : A) → i < length list → (bytes_cmp (key (get_or list i d)) q ≡ Less) ⊎ (bytes_cmp (key (get_or list i d)) q ≡ Greater)
  side list q at p i d k = elim (cases_lt i at) [
    | inl below ↦ inl (p.0 i d (omega arith) below)
    | inr above ↦ inr (p.1 i d above k)
  ]

  abbrev pub stored_by : List A → fin.FinMap bytes_cmp X
  stored_by list = fin.from_sorted (pairs_by list)

  -- what a search answers, whose slice is the list
  module _ (list : List A) (q : List ℕ) (r : Result ℕ ℕ) (sorted : T (fin.is_sorted bytes_cmp (pairs_by list))) (within : IsSearchInRange r (length list)) (is : IsBinarySearchResult (λ a. bytes_cmp (key a) q) list r) where
    parted : (at : ℕ) → r ≡ Err at → IsPartitionPoint (λ y. bytes_cmp (key y) q ≡ Less) (λ y. bytes_cmp (key y) q ≡ Greater) list at
    parted at e =
        let found = subst (IsBinarySearchResult (λ a. bytes_cmp (key a) q) list) e is in
        found (rises list q sorted)

    pub searched : (i : ℕ) (a : A) → r ≡ Ok i → a ≡ get_or list i a → Some (kept a) ≡ fin.get (stored_by list) q
    searched i a e there =
        let equal : HoldsAt (λ y. bytes_cmp (key y) q ≡ Equal) list i = subst (IsBinarySearchResult (λ a. bytes_cmp (key a) q) list) e is in
        sym (fin.get-from_sorted bytes_cmp (pairs_by list) q sorted ∙ found_at list q i a sorted (subst (λ r. IsSearchInRange r (length list)) e within) (equal a) ∙ ap (λ b. Some (kept b)) (sym there))

    pub missed : (at : ℕ) → r ≡ Err at → None ≡ fin.get (stored_by list) q
    missed at e = sym (fin.get-from_sorted bytes_cmp (pairs_by list) q sorted ∙ found_nowhere list q (side list q at (parted at e)))

  -- an item at the place to which its key belongs is put there
  put_at : (list : List A) (x : A) (at : ℕ) → at ≤ length list → ((i : ℕ) (d : A) → i < length list → i < at → bytes_cmp (key (get_or list i d)) (key x) ≡ Less)
      → ((i : ℕ) (d : A) → i < length list → at ≤ i → bytes_cmp (key (get_or list i d)) (key x) ≡ Greater)
      → pairs_by (take at list ++ x ∷ drop at list) ≡ fin.put bytes_cmp (key x) (kept x) (pairs_by list)
  put_at [] x zero le below above = refl
  put_at [] x (suc at) le below above = absurd (omega (arith, le))
  put_at (a ∷ list) x zero le below above =
      let order : bytes_cmp (key x) (key a) ≡ Less = ordered.antisymm (key x) (key a) ∙ ap ordering_reverse (above 0 a (omega arith) (omega arith)) in
      sym (ap (λ o. by_order o ((key x, kept x) ∷ (key a, kept a) ∷ pairs_by list) ((key a, kept x) ∷ pairs_by list) ((key a, kept a) ∷ fin.put bytes_cmp (key x) (kept x) (pairs_by list))) order)
  put_at (a ∷ list) x (suc at) le below above =
      let order : bytes_cmp (key x) (key a) ≡ Greater = ordered.antisymm (key x) (key a) ∙ ap ordering_reverse (below 0 a (omega arith) (omega arith)) in
      ap (λ ps. (key a, kept a) ∷ ps) (put_at list x at (omega (arith, le)) (λ i d k l. below (suc i) d (omega (arith, k)) (omega (arith, l))) (λ i d k l. above (suc i) d (omega (arith, k)) (omega (arith, l))))
      ∙ sym (ap (λ o. by_order o ((key x, kept x) ∷ (key a, kept a) ∷ pairs_by list) ((key a, kept x) ∷ pairs_by list) ((key a, kept a) ∷ fin.put bytes_cmp (key x) (kept x) (pairs_by list))) order)

  -- what is put where a search missed its key
  module _ (list : List A) (x : A) (r : Result ℕ ℕ) (sorted : T (fin.is_sorted bytes_cmp (pairs_by list))) (within : IsSearchInRange r (length list)) (is : IsBinarySearchResult (λ a. bytes_cmp (key a) (key x)) list r) (at : ℕ) (e : r ≡ Err at) where
    placed : pairs_by (take at list ++ x ∷ drop at list) ≡ fin.put bytes_cmp (key x) (kept x) (pairs_by list)
    placed =
        let parts = parted list (key x) r sorted within is at e in
        put_at list x at (subst (λ r. IsSearchInRange r (length list)) e within) (λ i d k l. parts.0 i d (omega arith) l) (λ i d k l. parts.1 i d l k)

    pub sorted-inserted : T (fin.is_sorted bytes_cmp (pairs_by (take at list ++ x ∷ drop at list)))
    sorted-inserted = subst (λ ps. T (fin.is_sorted bytes_cmp ps)) (sym placed) (is_sorted-put bytes_cmp ordered (key x) (kept x) (pairs_by list) sorted)

    pub stored-inserted : stored_by (take at list ++ x ∷ drop at list) ≡ fin.insert (stored_by list) (key x) (kept x)
    stored-inserted = fin.same_entries_map _ _ (
        fin.entries-from_sorted bytes_cmp _ sorted-inserted ∙ placed
        ∙ ap (fin.put bytes_cmp (key x) (kept x)) (sym (fin.entries-from_sorted bytes_cmp (pairs_by list) sorted))
        ∙ sym (fin.entries-insert ordered (stored_by list) (key x) (kept x)))
