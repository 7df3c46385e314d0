-- The order of the held slots.
use Rattle.std.proofs.Common.{◌≡◌, ◌≢◌, ℕ, zero, suc, ◌+◌, ◌<◌, ◌≤◌, Bool, true, false, cond, List, [], ◌∷◌, ◌++◌, length, take, drop, filter, get_or, set, Option, Some, None, refl, sym, ap, ap₂, subst, ◌∙◌, arith, inl, inr, ◌⊎◌, eqb}
use Rattle.std.proofs.Math.Numerals.{one-add}
use Rattle.std.specs.Prelude.{is_some, ◌||◌}
use Rattle.std.specs.List.{prefix_len, insert, remove}
use Rattle.std.specs.Cmp.{IsTotalOrder, nat_cmp_is}
use Rattle.std.specs.Cmp.Lexicographic.{slice_cmp}
use Rattle.std.specs.Ordering.{is_lt, nat_cmp, match_ordering, ordering_reverse, ordering_then}
use Rattle.slp_text.specs.Words.{bytes_cmp}
use Rattle.std.specs.declared.cmp.Ordering.{Ordering}
use Rattle.std.specs.declared.cmp.Ordering.TheVariants.{Less, Equal, Greater}
use Rattle.std.proofs.lemmas.Cmp.{then_total, on_total, nat_list_cmp_total}
use Rattle.std.proofs.lemmas.Map.Lookups.{CmpEqualImpliesEq, exact_bytes, exact_pairs}
use Rattle.std.proofs.lemmas.List.{get_or-set_same, get_or-set_other, length-set, take-append-drop}
use Rattle.std.proofs.lemmas.List.Edits.{length-insert}
use Rattle.std.proofs.lemmas.Bool.{cases_eq, eq-eqb, ne_eqb}
use Rattle.service_url.specs.Types.{root_of}
use Rattle.registry_core.specs.declared.entry.Entry.{Entry}
use Rattle.registry_slots.specs.declared.orders.By.{By}
use Rattle.registry_slots.specs.declared.orders.By.TheVariants as by
use Rattle.registry_core.specs.Entries.{Pair, pair_cmp, pair_of, if_kept}
use Rattle.registry_slots.specs.Slots.{Apart, slot_at}
use Rattle.registry_slots.specs.Orders.{Rank, rank_behind, rank_cmp, rank_of, rank_in, rank_at, comes_before, place_in, stands_to, Above, Rising, IsOrder, is_held}
use Rattle.registry_core.proofs.Lists.{pair_total, pair_exact}
use Rattle.registry_slots.proofs.SlotLists.{slot_lt}
use Rattle.slot_chains.specs.Links.{count}
use Rattle.slot_chains.proofs.Walks.{length_bound}

-- ---- counts

zero-add : (n : ℕ) → 0 + n ≡ n
zero-add n = omega arith

pub count-append : (z : ℕ) (xs ys : List ℕ) → count z (xs ++ ys) ≡ count z xs + count z ys
count-append z [] ys = sym (zero-add (count z ys))
count-append z (x ∷ xs) ys = omega (arith, count-append z xs ys)

pub count-insert : (z : ℕ) (xs : List ℕ) (i y : ℕ) → count z (insert xs i y) ≡ cond (eqb y z) 1 0 + count z xs
count-insert z xs i y =
    let a = count-append z (take i xs) (y ∷ drop i xs) in
    let b : count z xs ≡ count z (take i xs) + count z (drop i xs) = ap (count z) (sym (take-append-drop i xs)) ∙ count-append z (take i xs) (drop i xs) in
    omega arith

pub count-filter : (p : ℕ → Bool) (z : ℕ) (xs : List ℕ) → count z (filter p xs) ≡ cond (p z) (count z xs) 0
count-filter p z [] = elim (p z) as (λ b. ◌≡◌ {A = ℕ} 0 (cond b 0 0)) [ true ↦ refl | false ↦ refl ]
count-filter p z (x ∷ xs) =
    let more = count-filter p z xs in
    elim (cases_eq x z) [
      | inl e ↦ subst (λ w. count w (filter p (x ∷ xs)) ≡ cond (p w) (cond (eqb x w) 1 0 + count w xs) 0) e
          (elim (p x) as (λ b. count x (filter p xs) ≡ cond b (count x xs) 0 → count x (cond b (x ∷ filter p xs) (filter p xs)) ≡ cond b (cond (eqb x x) 1 0 + count x xs) 0) [
            | true ↦ λ h. ap (λ m. cond (eqb x x) 1 0 + m) h
            | false ↦ λ h. h
          ] (subst (λ w. count w (filter p xs) ≡ cond (p w) (count w xs) 0) (sym e) more))
      | inr d ↦
          let f : eqb x z ≡ false = ne_eqb x z d in
          let drops : count z (x ∷ filter p xs) ≡ count z (filter p xs) = ap (λ b. cond b 1 0 + count z (filter p xs)) f ∙ zero-add _ in
          elim (p x) as (λ b. count z (cond b (x ∷ filter p xs) (filter p xs)) ≡ count z (filter p xs)) [ true ↦ drops | false ↦ refl ]
          ∙ more ∙ ap (λ m. cond (p z) m 0) (sym (ap (λ b. cond b 1 0 + count z xs) f ∙ zero-add _))
    ]

passes : (p : ℕ → Bool) (x : ℕ) (xs : List ℕ) → 0 < count x (filter p xs) → p x ≡ true
passes p x xs h = elim (p x) as (λ b. count x (filter p xs) ≡ cond b (count x xs) 0 → b ≡ true) [
  | true ↦ λ k. refl
  | false ↦ λ k. absurd (omega arith)
] (count-filter p x xs)

pub count_here : (x : ℕ) (xs : List ℕ) → 0 < count x (x ∷ xs)
count_here x xs = subst (λ b. 0 < cond b 1 0 + count x xs) (sym (eq-eqb x x refl)) (omega arith)

pub count_at : (xs : List ℕ) (i : ℕ) → i < length xs → 0 < count (get_or xs i 0) xs
count_at [] i h = absurd (omega arith)
count_at (x ∷ xs) zero h = count_here x xs
count_at (x ∷ xs) (suc i) h = let t = count_at xs i (omega arith) in omega arith

pub count-remove : (z : ℕ) (xs : List ℕ) (i : ℕ) → i < length xs → count z xs ≡ cond (eqb (get_or xs i 0) z) 1 0 + count z (remove xs i)
count-remove z [] i h = absurd (omega arith)
count-remove z (x ∷ xs) zero h = refl
count-remove z (x ∷ xs) (suc i) h = let t = count-remove z xs i (omega arith) in omega arith

pub any_default : (xs : List ℕ) (i d f : ℕ) → i < length xs → get_or xs i d ≡ get_or xs i f
any_default [] i d f l = absurd (omega arith)
any_default (x ∷ xs) zero d f l = refl
any_default (x ∷ xs) (suc i) d f l = any_default xs i d f (omega arith)

-- ---- ranks

pub rank_total : IsTotalOrder rank_cmp
rank_total = then_total (on_total (λ p. p.0) nat_list_cmp_total) (on_total (λ p. p.1) pair_total)

pub rank_exact : CmpEqualImpliesEq rank_cmp
rank_exact = exact_pairs (slice_cmp nat_cmp) pair_cmp exact_bytes pair_exact

module _ (way : By) where
  -- ---- the order of ranks

  less_from : (o : Ordering) → is_lt o ≡ true → o ≡ Less
  less_from Less h = refl
  less_from Equal h = cc
  less_from Greater h = cc

  pub flipped : (p q : Rank) → rank_cmp p q ≡ Greater → rank_cmp q p ≡ Less
  flipped p q h = rank_total.antisymm q p ∙ ap ordering_reverse h

  -- ---- a rising order

  module _ (slots : List (Option Entry)) where
    abbrev pub Holds : List ℕ → Type 0
    Holds xs = (x : ℕ) → 0 < count x xs → (e : Entry) × (slot_at slots x ≡ Some e)

    holds_tail : (x : ℕ) (xs : List ℕ) → Holds (x ∷ xs) → Holds xs
    holds_tail x xs h = λ y c. h y (omega arith)

    pub holds : (order : List ℕ) → IsOrder way slots order → Holds order
    holds order o = λ x c. elim (slot_at slots x) as (λ s. count x order ≡ cond (is_some s) 1 0 → slot_at slots x ≡ s → (e : Entry) × (slot_at slots x ≡ Some e)) [
      | None ↦ λ n h. absurd (omega arith)
      | Some e ↦ λ n h. (e, h)
    ] (o.each x) refl

    pub above_at : (p : Rank) (xs : List ℕ) (i : ℕ) → Above way slots p xs → i < length xs → rank_cmp p (rank_at way slots (get_or xs i 0)) ≡ Less
    above_at p [] i a l = absurd (omega arith)
    above_at p (x ∷ xs) zero a l = a.0
    above_at p (x ∷ xs) (suc i) a l = above_at p xs i a.1 (omega arith)

    above_in : (p : Rank) (xs : List ℕ) (x : ℕ) → Above way slots p xs → 0 < count x xs → rank_cmp p (rank_at way slots x) ≡ Less
    above_in p [] x a c = absurd (omega arith)
    above_in p (y ∷ ys) x a c = elim (cases_eq y x) [
      | inl i ↦ ap (rank_cmp p) (ap (rank_at way slots) (sym i)) ∙ a.0
      | inr d ↦ above_in p ys x a.1 (subst (λ t. 0 < cond t 1 0 + count x ys → 0 < count x ys) (sym (ne_eqb y x d)) (λ z. omega arith) c)
    ]

    above_less : (p q : Rank) (xs : List ℕ) → rank_cmp p q ≡ Less → Above way slots q xs → Above way slots p xs
    above_less p q [] l a = tt
    above_less p q (x ∷ xs) l a = (rank_total.trans p q (rank_at way slots x) l a.0, above_less p q xs l a.1)

    module _ (q : Rank) where
      abbrev before : ℕ → Bool
      before x = comes_before way q (slot_at slots x)

      before_is : (x : ℕ) (e : Entry) → slot_at slots x ≡ Some e → before x ≡ is_lt (rank_cmp (rank_at way slots x) q)
      before_is x e h = ap (comes_before way q) h ∙ sym (ap (λ o. is_lt (rank_cmp (rank_in way o) q)) h)

      -- what comes before it is below the rank
      pub rank_past : (xs : List ℕ) (i : ℕ) → Holds xs → Rising way slots xs → i < length xs → before (get_or xs i 0) ≡ true → i < prefix_len before xs
      rank_past [] i h r l b = absurd (omega arith)
      rank_past (x ∷ xs) zero h r l b = subst (λ t. 0 < cond t (1 + prefix_len before xs) 0) (sym b) (omega arith)
      rank_past (x ∷ xs) (suc i) h r l b =
          let y : ℕ = get_or xs i 0 in
          let li : i < length xs = omega arith in
          let hy = h y (let c = count_at xs i li in omega arith) in
          let hx = h x (count_here x xs) in
          let low : rank_cmp (rank_at way slots y) q ≡ Less = less_from _ (sym (before_is y hy.0 hy.1) ∙ b) in
          let first : before x ≡ true = before_is x hx.0 hx.1 ∙ ap is_lt (rank_total.trans (rank_at way slots x) (rank_at way slots y) q (above_at (rank_at way slots x) xs i r.0 li) low) in
          let more : i < prefix_len before xs = rank_past xs i (holds_tail x xs h) r.1 li b in
          subst (λ t. suc i < cond t (1 + prefix_len before xs) 0) (sym first) (omega arith)

      pub rank_upto : (xs : List ℕ) (i : ℕ) → i < length xs → before (get_or xs i 0) ≡ false → prefix_len before xs ≤ i
      rank_upto [] i l b = absurd (omega arith)
      rank_upto (x ∷ xs) zero l b = subst (λ t. cond t (1 + prefix_len before xs) 0 ≤ 0) (sym b) (omega arith)
      rank_upto (x ∷ xs) (suc i) l b =
          let more : prefix_len before xs ≤ i = rank_upto xs i (omega arith) b in
          elim (before x) as (λ t. cond t (1 + prefix_len before xs) 0 ≤ suc i) [ true ↦ omega arith | false ↦ omega arith ]

      pub rank_within : (xs : List ℕ) → prefix_len before xs ≤ length xs
      rank_within [] = omega arith
      rank_within (x ∷ xs) = let more = rank_within xs in elim (before x) as (λ t. cond t (1 + prefix_len before xs) 0 ≤ suc (length xs)) [ true ↦ omega arith | false ↦ omega arith ]

    -- ---- a slot put in its place

    above_insert : (p : Rank) (xs : List ℕ) (i x : ℕ) → rank_cmp p (rank_at way slots x) ≡ Less → Above way slots p xs → Above way slots p (insert xs i x)
    above_insert p xs zero x l a = (l, a)
    above_insert p [] (suc i) x l a = (l, tt)
    above_insert p (y ∷ ys) (suc i) x l a = (a.0, above_insert p ys i x l a.1)

    pub rising_insert : (x : ℕ) (xs : List ℕ) → Holds xs → Rising way slots xs → ((y : ℕ) → 0 < count y xs → rank_cmp (rank_at way slots y) (rank_at way slots x) ≢ Equal) → Rising way slots (insert xs (prefix_len (before (rank_at way slots x)) xs) x)
    rising_insert x [] h r d = (tt, tt)
    rising_insert x (y ∷ ys) h r d =
        let q : Rank = rank_at way slots x in
        let hy = h y (count_here y ys) in
        let n : ℕ = prefix_len (before q) ys in
        let more : Rising way slots (insert ys n x) = rising_insert x ys (holds_tail y ys h) r.1 (λ z c. d z (omega arith)) in
        elim (rank_cmp (rank_at way slots y) q) as (λ o. rank_cmp (rank_at way slots y) q ≡ o → Rising way slots (insert (y ∷ ys) (cond (before q y) (1 + n) 0) x)) [
          | Less ↦ λ o.
              let b : before q y ≡ true = before_is q y hy.0 hy.1 ∙ ap is_lt o in
              subst (λ t. Rising way slots (insert (y ∷ ys) (cond t (1 + n) 0) x)) (sym b)
              (subst (λ m. Rising way slots (insert (y ∷ ys) m x)) (sym (one-add n)) (above_insert (rank_at way slots y) ys n x o r.0, more))
          | Equal ↦ λ o. absurd (d y (count_here y ys) o)
          | Greater ↦ λ o.
              let b : before q y ≡ false = before_is q y hy.0 hy.1 ∙ ap is_lt o in
              let low : rank_cmp q (rank_at way slots y) ≡ Less = flipped (rank_at way slots y) q o in
              subst (λ t. Rising way slots (insert (y ∷ ys) (cond t (1 + n) 0) x)) (sym b)
              ((low, above_less q (rank_at way slots y) ys low r.0), r)
        ] refl

  -- ---- other slots of the same pairs

  above_same : (old new : List (Option Entry)) (p : Rank) (xs : List ℕ) → ((x : ℕ) → 0 < count x xs → rank_at way new x ≡ rank_at way old x) → Above way old p xs → Above way new p xs
  above_same old new p [] s a = tt
  above_same old new p (x ∷ xs) s a = (ap (rank_cmp p) (s x (count_here x xs)) ∙ a.0, above_same old new p xs (λ y c. s y (omega arith)) a.1)

  pub rising_same : (old new : List (Option Entry)) (xs : List ℕ) → ((x : ℕ) → 0 < count x xs → rank_at way new x ≡ rank_at way old x) → Rising way old xs → Rising way new xs
  rising_same old new [] s r = tt
  rising_same old new (x ∷ xs) s r = (
    subst (λ p. Above way new p xs) (sym (s x (count_here x xs))) (above_same old new (rank_at way old x) xs (λ y c. s y (omega arith)) r.0),
    rising_same old new xs (λ y c. s y (omega arith)) r.1,
  )

  above_filter : (slots : List (Option Entry)) (keep : ℕ → Bool) (p : Rank) (xs : List ℕ) → Above way slots p xs → Above way slots p (filter keep xs)
  above_filter slots keep p [] a = tt
  above_filter slots keep p (x ∷ xs) a = elim (keep x) as (λ b. Above way slots p (cond b (x ∷ filter keep xs) (filter keep xs))) [
    | true ↦ (a.0, above_filter slots keep p xs a.1)
    | false ↦ above_filter slots keep p xs a.1
  ]

  rising_filter : (slots : List (Option Entry)) (keep : ℕ → Bool) (xs : List ℕ) → Rising way slots xs → Rising way slots (filter keep xs)
  rising_filter slots keep [] r = tt
  rising_filter slots keep (x ∷ xs) r = elim (keep x) as (λ b. Rising way slots (cond b (x ∷ filter keep xs) (filter keep xs))) [
    | true ↦ (above_filter slots keep (rank_at way slots x) xs r.0, rising_filter slots keep xs r.1)
    | false ↦ rising_filter slots keep xs r.1
  ]

  -- ---- the three changes of an order

  prefix_same : (xs : List ℕ) (f g : ℕ → Bool) → ((x : ℕ) → 0 < count x xs → f x ≡ g x) → prefix_len f xs ≡ prefix_len g xs
  prefix_same [] f g s = refl
  prefix_same (x ∷ xs) f g s = ap₂ (λ b (n : ℕ). cond b (1 + n) 0) (s x (count_here x xs)) (prefix_same xs f g (λ y c. s y (omega arith)))

  -- an empty slot is filled
  pub IsOrder-fill : (slots : List (Option Entry)) (order : List ℕ) (x : ℕ) (e : Entry) → IsOrder way slots order → x < length slots → slot_at slots x ≡ None → ((y : ℕ) (f : Entry) → slot_at slots y ≡ Some f → rank_of way f ≢ rank_of way e) → IsOrder way (set slots x (Some e)) (insert order (place_in way slots order (rank_of way e)) x)
  IsOrder-fill slots order x e o l empty fresh =
      let new : List (Option Entry) = set slots x (Some e) in
      let here : slot_at new x ≡ Some e = get_or-set_same slots x (Some e) None l in
      let other : (y : ℕ) → y ≢ x → slot_at new y ≡ slot_at slots y = λ y d. get_or-set_other slots x y (Some e) None d in
      let none : ◌≡◌ {A = ℕ} (count x order) 0 = o.each x ∙ ap (λ s. cond (is_some s) 1 0) empty in
      let apart : (y : ℕ) → 0 < count y order → y ≢ x = λ y c i. absurd (let z : 0 < count x order = subst (λ w. 0 < count w order) i c in omega arith) in
      let same : (y : ℕ) → 0 < count y order → slot_at new y ≡ slot_at slots y = λ y c. other y (apart y c) in
      let held : Holds new order = λ y c. let h = holds slots order o y c in (h.0, same y c ∙ h.1) in
      let rank_x : rank_at way new x ≡ rank_of way e = ap (rank_in way) here in
      let ranks : place_in way slots order (rank_of way e) ≡ prefix_len (before new (rank_at way new x)) order =
      prefix_same order (λ y. comes_before way (rank_of way e) (slot_at slots y)) (before new (rank_at way new x)) (λ y c. ap (comes_before way (rank_of way e)) (sym (same y c)) ∙ ap (λ p. comes_before way p (slot_at new y)) (sym rank_x)) in
      record {
        each = λ y. count-insert y order (place_in way slots order (rank_of way e)) x ∙ elim (cases_eq y x) [
          | inl i ↦ ap₂ (λ (b : Bool) (n : ℕ). cond b 1 0 + n) (eq-eqb x y (sym i)) (ap (λ z. count z order) i ∙ none) ∙ sym (ap (λ s. cond (is_some s) 1 0) (ap (slot_at new) i ∙ here))
          | inr d ↦ ap (λ (b : Bool). cond b 1 0 + count y order) (ne_eqb x y (λ i. d (sym i))) ∙ zero-add (count y order) ∙ o.each y ∙ ap (λ s. cond (is_some s) 1 0) (sym (other y d))
        ];
        rising = subst (λ n. Rising way new (insert order n x)) (sym ranks) (rising_insert new x order held
            (rising_same slots new order (λ y c. ap (rank_in way) (same y c)) o.rising)
            (λ y c t. let h = holds slots order o y c in fresh y h.0 h.1 (sym (ap (rank_in way) (same y c ∙ h.1)) ∙ rank_exact (rank_at way new y) (rank_at way new x) t ∙ rank_x)));
      }

  -- a held slot has another entry of its pair
  pub IsOrder-same : (slots : List (Option Entry)) (order : List ℕ) (x : ℕ) (o e : Entry) → IsOrder way slots order → slot_at slots x ≡ Some o → rank_of way o ≡ rank_of way e → IsOrder way (set slots x (Some e)) order
  IsOrder-same slots order x o e i there same =
      let new : List (Option Entry) = set slots x (Some e) in
      let here : slot_at new x ≡ Some e = get_or-set_same slots x (Some e) None (slot_lt slots x o there) in
      let other : (y : ℕ) → y ≢ x → slot_at new y ≡ slot_at slots y = λ y d. get_or-set_other slots x y (Some e) None d in
      let held : (y : ℕ) → is_some (slot_at new y) ≡ is_some (slot_at slots y) = λ y. elim (cases_eq y x) [
        | inl k ↦ ap is_some (ap (slot_at new) k ∙ here) ∙ sym (ap is_some (ap (slot_at slots) k ∙ there))
        | inr d ↦ ap is_some (other y d)
      ] in
      let pairs : (y : ℕ) → rank_at way new y ≡ rank_at way slots y = λ y. elim (cases_eq y x) [
        | inl k ↦ ap (rank_in way) (ap (slot_at new) k ∙ here) ∙ sym same ∙ sym (ap (rank_in way) (ap (slot_at slots) k ∙ there))
        | inr d ↦ ap (rank_in way) (other y d)
      ] in
      record {
        each = λ y. i.each y ∙ ap (λ b. cond b 1 0) (sym (held y));
        rising = rising_same slots new order (λ y c. pairs y) i.rising;
      }

  -- some slots are emptied
  pub IsOrder-kept : (old new : List (Option Entry)) (order : List ℕ) (p : Entry → Bool) → IsOrder way old order → ((x : ℕ) → slot_at new x ≡ if_kept p (slot_at old x)) → IsOrder way new (filter (is_held new) order)
  IsOrder-kept old new order p o each =
      let stays : (x : ℕ) → is_held new x ≡ true → slot_at new x ≡ slot_at old x = λ x. elim (slot_at old x) as (λ s. slot_at new x ≡ if_kept p s → is_held new x ≡ true → slot_at new x ≡ s) [
        | None ↦ λ k h. k
        | Some e ↦ elim (p e) as (λ b. slot_at new x ≡ cond b (Some e) None → is_held new x ≡ true → slot_at new x ≡ Some e) [
          | true ↦ λ k h. k
          | false ↦ λ k h. let f : is_held new x ≡ false = ap is_some k in cc
        ]
      ] (each x) in
      record {
        each = λ x. count-filter (is_held new) x order ∙ elim (is_held new x) as (λ b. is_held new x ≡ b → cond b (count x order) 0 ≡ cond b 1 0) [
          | true ↦ λ h. o.each x ∙ ap (λ s. cond (is_some s) 1 0) (sym (stays x h)) ∙ ap (λ b. cond b 1 0) h
          | false ↦ λ h. refl
        ] refl;
        rising = rising_same old new (filter (is_held new) order) (λ x c. ap (rank_in way) (stays x (passes (is_held new) x order c))) (rising_filter old (is_held new) order o.rising);
      }

  pub length_most : (slots : List (Option Entry)) (order : List ℕ) → IsOrder way slots order → length order ≤ length slots
  length_most slots order o = length_bound (length slots) order
      (λ y. elim (is_some (slot_at slots y)) as (λ b. count y order ≡ cond b 1 0 → count y order ≤ 1) [ true ↦ λ h. omega arith | false ↦ λ h. omega arith ] (o.each y))
      (λ y past. elim (slot_at slots y) as (λ s. slot_at slots y ≡ s → count y order ≡ cond (is_some s) 1 0 → ◌≡◌ {A = ℕ} (count y order) 0) [
        | None ↦ λ h c. c
        | Some e ↦ λ h c. absurd (let l = slot_lt slots y e h in omega arith)
      ] refl (o.each y))

  -- nothing is held yet
  pub IsOrder-new : (slots : List (Option Entry)) → ((x : ℕ) → slot_at slots x ≡ None) → IsOrder way slots []
  IsOrder-new slots none = record { each = λ x. ap (λ s. cond (is_some s) 1 0) (sym (none x)); rising = tt }

  -- there is room for one more
  pub length_less : (slots : List (Option Entry)) (order : List ℕ) (x : ℕ) (e : Entry) → IsOrder way slots order → x < length slots → slot_at slots x ≡ None → ((y : ℕ) (f : Entry) → slot_at slots y ≡ Some f → rank_of way f ≢ rank_of way e) → length order < length slots
  length_less slots order x e o l empty fresh =
      let more = length_most (set slots x (Some e)) (insert order (place_in way slots order (rank_of way e)) x) (IsOrder-fill slots order x e o l empty fresh) in
      let within = rank_within slots (rank_of way e) order in
      omega (arith, length-insert order (place_in way slots order (rank_of way e)) x within, length-set slots x (Some e))

  -- ---- where a held slot stands

  same_rank : (p : Rank) → rank_cmp p p ≡ Equal
  same_rank p = elim (rank_cmp p p) as (λ o. rank_cmp p p ≡ o → o ≡ Equal) [
    | Less ↦ λ h. let k : Less ≡ Greater = sym h ∙ rank_total.antisymm p p ∙ ap ordering_reverse h in cc
    | Equal ↦ λ h. refl
    | Greater ↦ λ h. let k : Greater ≡ Less = sym h ∙ rank_total.antisymm p p ∙ ap ordering_reverse h in cc
  ] refl

  module _ (slots : List (Option Entry)) where
    -- a slot of the order stands where its rank says
    pub stands : (xs : List ℕ) (x : ℕ) → Holds slots xs → Rising way slots xs → 0 < count x xs
        → (prefix_len (before slots (rank_at way slots x)) xs < length xs) × (get_or xs (prefix_len (before slots (rank_at way slots x)) xs) 0 ≡ x)
    stands [] x h r c = absurd (omega arith)
    stands (y ∷ ys) x h r c =
        let q : Rank = rank_at way slots x in
        let n : ℕ = prefix_len (before slots q) ys in
        let hy = h y (count_here y ys) in
        elim (cases_eq y x) [
          | inl i ↦
              let b : before slots q y ≡ false = before_is slots q y hy.0 hy.1 ∙ ap is_lt (ap (rank_cmp (rank_at way slots y)) (ap (rank_at way slots) (sym i)) ∙ same_rank (rank_at way slots y)) in
              subst (λ t. (cond t (1 + n) 0 < length (y ∷ ys)) × (get_or (y ∷ ys) (cond t (1 + n) 0) 0 ≡ x)) (sym b) (omega arith, i)
          | inr d ↦
              let more : 0 < count x ys = subst (λ t. 0 < cond t 1 0 + count x ys → 0 < count x ys) (sym (ne_eqb y x d)) (λ z. omega arith) c in
              let m = stands ys x (holds_tail slots y ys h) r.1 more in
              let low : rank_cmp (rank_at way slots y) q ≡ Less = above_in slots (rank_at way slots y) ys x r.0 more in
              let b : before slots q y ≡ true = before_is slots q y hy.0 hy.1 ∙ ap is_lt low in
              subst (λ t. (cond t (1 + n) 0 < length (y ∷ ys)) × (get_or (y ∷ ys) (cond t (1 + n) 0) 0 ≡ x)) (sym b)
              (subst (λ m. (m < length (y ∷ ys)) × (get_or (y ∷ ys) m 0 ≡ x)) (sym (one-add n)) (omega (arith, m.0), m.1))
        ]

  module _ (slots : List (Option Entry)) (order : List ℕ) (o : IsOrder way slots order) where
    pub in_order : (x : ℕ) (e : Entry) → slot_at slots x ≡ Some e → ◌≡◌ {A = ℕ} (count x order) 1
    in_order x e h = o.each x ∙ ap (λ s. cond (is_some s) 1 0) h

    -- a slot of the order is held
    pub held_at : (i x : ℕ) → i < length order → get_or order i 0 ≡ x → (e : Entry) × (slot_at slots x ≡ Some e)
    held_at i x l is = holds slots order o x (subst (λ y. 0 < count y order) is (count_at order i l))

    -- where the slot of an entry of this rank stands
    pub stands_at : (q : Rank) (x : ℕ) (e : Entry) → slot_at slots x ≡ Some e → rank_of way e ≡ q → (place_in way slots order q < length order) × (get_or order (place_in way slots order q) 0 ≡ x)
    stands_at q x e h same =
        let is : rank_at way slots x ≡ q = ap (rank_in way) h ∙ same in
        subst (λ r. (place_in way slots order r < length order) × (get_or order (place_in way slots order r) 0 ≡ x)) is
        (stands slots order x (holds slots order o) o.rising (let c = in_order x e h in omega arith))

    -- one rank, one slot
    pub alone : (x y : ℕ) (e f : Entry) → slot_at slots x ≡ Some e → slot_at slots y ≡ Some f → rank_of way e ≡ rank_of way f → x ≡ y
    alone x y e f hx hy same = sym (stands_at (rank_of way f) x e hx same).1 ∙ (stands_at (rank_of way f) y f hy refl).1

  -- ---- a slot is taken out

  above_remove : (slots : List (Option Entry)) (p : Rank) (xs : List ℕ) (i : ℕ) → Above way slots p xs → Above way slots p (remove xs i)
  above_remove slots p [] zero a = tt
  above_remove slots p [] (suc i) a = tt
  above_remove slots p (x ∷ xs) zero a = a.1
  above_remove slots p (x ∷ xs) (suc i) a = (a.0, above_remove slots p xs i a.1)

  rising_remove : (slots : List (Option Entry)) (xs : List ℕ) (i : ℕ) → Rising way slots xs → Rising way slots (remove xs i)
  rising_remove slots [] zero r = tt
  rising_remove slots [] (suc i) r = tt
  rising_remove slots (x ∷ xs) zero r = r.1
  rising_remove slots (x ∷ xs) (suc i) r = (above_remove slots (rank_at way slots x) xs i r.0, rising_remove slots xs i r.1)

  -- the slot at a place is emptied
  pub IsOrder-drop : (slots : List (Option Entry)) (order : List ℕ) (i x : ℕ) (e : Entry) → IsOrder way slots order → i < length order → get_or order i 0 ≡ x → slot_at slots x ≡ Some e → IsOrder way (set slots x None) (remove order i)
  IsOrder-drop slots order i x e o l stands there =
      let new : List (Option Entry) = set slots x None in
      let here : slot_at new x ≡ None = get_or-set_same slots x None None (slot_lt slots x e there) in
      let other : (y : ℕ) → y ≢ x → slot_at new y ≡ slot_at slots y = λ y d. get_or-set_other slots x y None None d in
      let fewer : (y : ℕ) → count y order ≡ cond (eqb x y) 1 0 + count y (remove order i) = λ y. subst (λ z. count y order ≡ cond (eqb z y) 1 0 + count y (remove order i)) stands (count-remove y order i l) in
      let gone : ◌≡◌ {A = ℕ} (count x (remove order i)) 0 = (let a = in_order slots order o x e there in let b = fewer x in let c = eq-eqb x x refl in let d : count x order ≡ 1 + count x (remove order i) = b ∙ ap (λ t. cond t 1 0 + count x (remove order i)) c in omega arith) in
      let apart : (y : ℕ) → 0 < count y (remove order i) → y ≢ x = λ y c k. absurd (let z : 0 < count x (remove order i) = subst (λ w. 0 < count w (remove order i)) k c in omega arith) in
      record {
        each = λ y. elim (cases_eq y x) [
          | inl k ↦ ap (λ z. count z (remove order i)) k ∙ gone ∙ sym (ap (λ s. cond (is_some s) 1 0) (ap (slot_at new) k ∙ here))
          | inr d ↦ sym (zero-add (count y (remove order i))) ∙ sym (ap (λ t. cond t 1 0 + count y (remove order i)) (ne_eqb x y (λ k. d (sym k)))) ∙ sym (fewer y) ∙ o.each y ∙ ap (λ s. cond (is_some s) 1 0) (sym (other y d))
        ];
        rising = rising_same slots new (remove order i) (λ y c. ap (rank_in way) (other y (apart y c))) (rising_remove slots order i o.rising);
      }

  -- of two places of the order the later one has the greater rank
  pub rising_at : (slots : List (Option Entry)) (xs : List ℕ) (i j : ℕ) → Rising way slots xs → i < j → j < length xs → rank_cmp (rank_at way slots (get_or xs i 0)) (rank_at way slots (get_or xs j 0)) ≡ Less
  rising_at slots [] i j r l m = absurd (omega arith)
  rising_at slots (x ∷ xs) zero zero r l m = absurd (omega arith)
  rising_at slots (x ∷ xs) zero (suc j) r l m = above_at slots (rank_at way slots x) xs j r.0 (omega arith)
  rising_at slots (x ∷ xs) (suc i) zero r l m = absurd (omega arith)
  rising_at slots (x ∷ xs) (suc i) (suc j) r l m = rising_at slots xs i j r.1 (omega arith) (omega arith)

-- an order by pairs keeps the slots apart
pub places_apart : (slots : List (Option Entry)) (order : List ℕ) → IsOrder by.Place slots order → Apart slots
places_apart slots order o = λ x y e f hx hy p. alone by.Place slots order o x y e f hx hy (ap (λ (q : Pair). ([], q)) p)

-- entries of one pair and type have one rank
pub same_ranks : (way : By) (e f : Entry) → pair_of e ≡ pair_of f → e.kind ≡ f.kind → rank_of way e ≡ rank_of way f
same_ranks by.Place e f p k = ap (λ (q : Pair). ([], q)) p
same_ranks by.Root e f p k = ap₂ (λ t (q : Pair). (root_of t, q)) k p
same_ranks by.Kind e f p k = ap₂ (λ (t : List ℕ) (q : Pair). (t, q)) k p

-- ---- before and behind a front

pub same_bytes_cmp : (p : List ℕ) → bytes_cmp p p ≡ Equal
same_bytes_cmp p = elim (bytes_cmp p p) as (λ o. bytes_cmp p p ≡ o → o ≡ Equal) [
  | Less ↦ λ h. let k : Less ≡ Greater = sym h ∙ nat_list_cmp_total.antisymm p p ∙ ap ordering_reverse h in cc
  | Equal ↦ λ h. refl
  | Greater ↦ λ h. let k : Greater ≡ Less = sym h ∙ nat_list_cmp_total.antisymm p p ∙ ap ordering_reverse h in cc
] refl

pub none_less : (xs : List ℕ) → is_lt (bytes_cmp xs []) ≡ false
none_less [] = refl
none_less (x ∷ xs) = refl

pub nil_first : (p : Pair) → is_lt (pair_cmp p ([], [])) ≡ false
nil_first p = elim p.0 as (λ u. is_lt (ordering_then (bytes_cmp u []) (bytes_cmp p.1 [])) ≡ false) [
  | [] ↦ none_less p.1
  | u ∷ us ↦ refl
]

-- what does not come after a text is before the text with one zero byte
zero_less : (t k : List ℕ) → bytes_cmp t k ≢ Greater → bytes_cmp t (k ++ 0 ∷ []) ≡ Less
zero_less [] [] h = refl
zero_less [] (y ∷ ys) h = refl
zero_less (x ∷ xs) [] h = absurd (h refl)
zero_less (x ∷ xs) (y ∷ ys) h = elim (nat_cmp x y) as (λ o. ordering_then o (bytes_cmp xs ys) ≢ Greater → ordering_then o (bytes_cmp xs (ys ++ 0 ∷ [])) ≡ Less) [
  | Less ↦ λ n. refl
  | Equal ↦ λ n. zero_less xs ys n
  | Greater ↦ λ n. absurd (n refl)
] h

-- and what comes after it is not
zero_last : (x : ℕ) (xs : List ℕ) → is_lt (bytes_cmp (x ∷ xs) (0 ∷ [])) ≡ false
zero_last zero xs = none_less xs
zero_last (suc x) xs = ap (λ o. is_lt (ordering_then o (bytes_cmp xs []))) (sym (nat_cmp_is (suc x) 0 Greater (omega arith)))

zero_not : (t k : List ℕ) → bytes_cmp t k ≡ Greater → is_lt (bytes_cmp t (k ++ 0 ∷ [])) ≡ false
zero_not [] [] h = cc
zero_not [] (y ∷ ys) h = cc
zero_not (x ∷ xs) [] h = zero_last x xs
zero_not (x ∷ xs) (y ∷ ys) h = elim (nat_cmp x y) as (λ o. ordering_then o (bytes_cmp xs ys) ≡ Greater → is_lt (ordering_then o (bytes_cmp xs (ys ++ 0 ∷ []))) ≡ false) [
  | Less ↦ λ n. cc
  | Equal ↦ λ n. zero_not xs ys n
  | Greater ↦ λ n. refl
] h

first_lt : (a b : Ordering) → is_lt a ≡ false → is_lt b ≡ false → is_lt (ordering_then a b) ≡ false
first_lt Less b h k = h
first_lt Equal b h k = k
first_lt Greater b h k = refl

-- the three answers of a compare with a front
pub spot_before : (f k : List ℕ) (p q : Pair) (behind : Bool) → match_ordering (bytes_cmp f k) true (behind || is_lt (pair_cmp p q)) false ≡ is_lt (rank_cmp (f, p) (cond behind (rank_behind k) (k, q)))
spot_before f k p q false = elim (bytes_cmp f k) as (λ o. match_ordering o true (is_lt (pair_cmp p q)) false ≡ is_lt (ordering_then o (pair_cmp p q))) [ Less ↦ refl | Equal ↦ refl | Greater ↦ refl ]
spot_before f k p q true = elim (bytes_cmp f k) as (λ o. bytes_cmp f k ≡ o → match_ordering o true true false ≡ is_lt (rank_cmp (f, p) (rank_behind k))) [
  | Less ↦ λ h. sym (ap (λ o. is_lt (ordering_then o (pair_cmp p ([], [])))) (zero_less f k (λ g. let z : Less ≡ Greater = sym h ∙ g in cc)))
  | Equal ↦ λ h. sym (ap (λ o. is_lt (ordering_then o (pair_cmp p ([], [])))) (zero_less f k (λ g. let z : Equal ≡ Greater = sym h ∙ g in cc)))
  | Greater ↦ λ h. sym (first_lt (bytes_cmp f (k ++ 0 ∷ [])) (pair_cmp p ([], [])) (zero_not f k h) (nil_first p))
] refl

-- what comes behind a front has a greater one
pub before_behind : (f k : List ℕ) (p : Pair) → is_lt (rank_cmp (f, p) (rank_behind k)) ≡ true → bytes_cmp f k ≢ Greater
before_behind f k p h = λ g. let z : false ≡ true = sym (first_lt (bytes_cmp f (k ++ 0 ∷ [])) (pair_cmp p ([], [])) (zero_not f k g) (nil_first p)) ∙ h in cc

pub own_behind : (k : List ℕ) (p : Pair) → is_lt (rank_cmp (k, p) (rank_behind k)) ≡ true
own_behind k p = ap (λ o. is_lt (ordering_then o (pair_cmp p ([], [])))) (zero_less k k (λ g. let z : Equal ≡ Greater = sym (same_bytes_cmp k) ∙ g in cc))

-- ---- the slot of a pair

-- what stands before a pair, or behind it
pub stands-before : (q : Pair) (o : Option Entry) (b : Ordering) → stands_to q o ≡ b → comes_before by.Place ([], q) o ≡ is_lt b
stands-before q None b h = ap is_lt h
stands-before q (Some e) b h = ap is_lt h

-- where the place of a pair has what comes after it, no slot has the pair
pub pair_nowhere : (slots : List (Option Entry)) (order : List ℕ) → IsOrder by.Place slots order → (q : Pair) (at : ℕ) → at ≡ place_in by.Place slots order ([], q)
    → (at ≡ length order) ⊎ (stands_to q (slot_at slots (get_or order at 0)) ≡ Greater) → (x : ℕ) (e : Entry) → slot_at slots x ≡ Some e → pair_of e ≢ q
pair_nowhere slots order o q at here above x e there same =
    let s = stands_at by.Place slots order o ([], q) x e there (ap (λ (p : Pair). ([], p)) same) in
    elim above [
      | inl end ↦ absurd (omega (arith, s.0))
      | inr g ↦
          let is : get_or order at 0 ≡ x = ap (λ n. get_or order n 0) here ∙ s.1 in
          let after : pair_cmp (pair_of e) q ≡ Greater = sym (ap (λ n. stands_to q (slot_at slots n)) is ∙ ap (stands_to q) there) ∙ g in
          let equal : pair_cmp (pair_of e) q ≡ Equal = ap (pair_cmp (pair_of e)) (sym same) ∙ same_rank by.Place ([], pair_of e) in
          let z : Equal ≡ Greater = sym equal ∙ after in
          cc
    ]
