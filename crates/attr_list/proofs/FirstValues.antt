-- The first of values that are the same: which they are, and their order.
use Rattle.std.proofs.Common.{◌≡◌, true≢false, ◌<◌, ◌≤◌, ◌+◌, ◌-◌, ℕ, Bool, true, false, List, [], ◌∷◌, map, take, length, get_or, set, refl, sym, ap, ap₂, subst, ◌∙◌, arith, inl, inr}
use Rattle.std.specs.Prelude.{◌⊎◌, not}
use Rattle.std.specs.Cmp.{ranks}
use Rattle.std.specs.List.{list_any, range_with_len, All, Contains, IsDistinct}
use Rattle.std.specs.List.Sorted.{IsPermutation, IsSorted}
use Rattle.std.specs.Ordering.{eq_by_cmp, is_eq, is_lt, nat_cmp, ordering_reverse, MatchOrdering}
use Rattle.std.specs.declared.cmp.Ordering.{Ordering}
use Rattle.std.specs.declared.cmp.Ordering.TheVariants.{Less, Equal, Greater}
use Rattle.std.proofs.lemmas.Bool.{cases_eq}
use Rattle.std.proofs.lemmas.Cmp.{eq_by_cmp_equiv, nat_cmp_total}
use Rattle.std.proofs.lemmas.List.{get_or-map, get_or-set_other, get_or-set_same, get_or-take, get_or_default, length-map, length-take-le}
use Rattle.std.proofs.lemmas.List.Elements.{All-from_recursion}
use Rattle.std.proofs.lemmas.List.Folds.{list_any_at, Any-from_list_any}
use Rattle.std.proofs.lemmas.List.FromFn.{get_or-range_with_len, length-range_with_len}
use Rattle.std.proofs.lemmas.List.Sorted.{ranks_by, sorted_far, All-permutation, Contains-permutation}
use Rattle.std.proofs.lemmas.Map.Keys.{apart_from_distinct, sorted_from_strictly_increasing, IsDistinct-from_sorted, IsDistinct-IsPermutation}
use Rattle.attr_values.proofs.Ranks.{value_order}
use Rattle.attr_values.specs.Ranks.{value_cmp}
use Rattle.attr_values.specs.declared.value.Value.{Value}
use Rattle.attr_values.specs.declared.value.Value.TheVariants as value
use Rattle.attr_list.specs.Gathering.{place_cmp, AreFirsts, AreInOrder}
use Rattle.attr_list.specs.Lists.{is_same}
use Rattle.attr_list.specs.Orders.{value_at}
use Rattle.attr_list.specs.declared.order.Ranked.{Ranked}
use Rattle.attr_list.proofs.DistinctValues.{identity_cmp, identity_ties}
use Rattle.attr_list.proofs.OrderedValues.{named_by}
use Rattle.attr_list.proofs.PlacesInOrder.{place_order, same-ties}

-- ---- what comparisons say

nat-itself : (p q : ℕ) → p ≡ q → is_eq (nat_cmp p q) ≡ true
nat-itself p q e = by (nat_cmp p q) (ranks p q)
  where
    by : (o : Ordering) → MatchOrdering o (p < q) (p ≡ q) (q < p) → is_eq o ≡ true
    by Less m = absurd (omega (arith, e, m))
    by Equal m = refl
    by Greater m = absurd (omega (arith, e, m))

is-equal : (o : Ordering) → is_eq o ≡ true → o ≡ Equal
is-equal Less h = absurd (true≢false (sym h))
is-equal Equal h = refl
is-equal Greater h = absurd (true≢false (sym h))

neither : (o : Ordering) → is_lt o ≡ false → is_lt (ordering_reverse o) ≡ false → o ≡ Equal
neither Less h k = absurd (true≢false h)
neither Equal h k = refl
neither Greater h k = absurd (true≢false k)

-- what stands between two that tie ties with them
squeeze : (x y z : Value) → is_lt (value_cmp y x) ≡ false → is_lt (value_cmp z y) ≡ false → value_cmp x z ≡ Equal → value_cmp y z ≡ Equal
squeeze x y z h k e =
    let turned : value_cmp y x ≡ value_cmp y z = value_order.antisymm y x ∙ ap ordering_reverse (value_order.congr x z y e) ∙ sym (value_order.antisymm y z) in
    neither (value_cmp y z) (ap is_lt (sym turned) ∙ h) (ap is_lt (sym (value_order.antisymm z y)) ∙ k)

-- ---- places that go by the order of their values

module _ (vs : List Value) (ps : List ℕ) (each : IsPermutation (range_with_len 0 (length vs)) ps) where
  abbrev all : List ℕ
  all = range_with_len 0 (length vs)

  pub below : All (λ p. p < length vs) ps
  below = All-permutation (λ p. p < length vs) all ps each (λ i d b.
      let is = length-range_with_len 0 (length vs) in
      omega (arith, b, is, get_or-range_with_len 0 (length vs) i d (omega (arith, b, is))))

  pub there : (p : ℕ) → p < length vs → Contains ps p
  there p b = Contains-permutation all ps p each (p, omega (arith, b, length-range_with_len 0 (length vs)), omega (arith, get_or-range_with_len 0 (length vs) p p b))

  apart : IsDistinct (eq_by_cmp nat_cmp) ps
  apart =
      IsDistinct-IsPermutation (eq_by_cmp nat_cmp) (eq_by_cmp_equiv nat_cmp_total).symm all ps each (IsDistinct-from_sorted nat_cmp all (sorted_from_strictly_increasing all (λ k b.
      let is = length-range_with_len 0 (length vs) in
      omega (arith, get_or-range_with_len 0 (length vs) k 0 (omega (arith, b, is)), get_or-range_with_len 0 (length vs) (k + 1) 0 (omega (arith, b, is))))))

  -- no place stands twice
  pub elsewhere : (i j : ℕ) → i < j → j < length ps → (get_or ps i 0 ≡ get_or ps j 0 → ⊥)
  elsewhere i j l b e = absurd (true≢false (sym (nat-itself (get_or ps i 0) (get_or ps j 0) e) ∙ apart_from_distinct (eq_by_cmp nat_cmp) ps i j 0 apart l b))

  -- what ties with an earlier one ties with the one before it
  pub between : IsSorted (place_cmp vs) ps → (i j k : ℕ) → i ≤ j → j ≤ k → k < length ps → place_cmp vs (get_or ps i 0) (get_or ps k 0) ≡ Equal → place_cmp vs (get_or ps j 0) (get_or ps k 0) ≡ Equal
  between sorted i j k l m b = squeeze (value_at vs (get_or ps i 0)) (value_at vs (get_or ps j 0)) (value_at vs (get_or ps k 0)) (far i j l (omega (arith, m, b))) (far j k m b)
    where
      far : (i j : ℕ) → i ≤ j → j < length ps → is_lt (place_cmp vs (get_or ps j 0) (get_or ps i 0)) ≡ false
      far i j l b = sorted_far (λ p q. is_lt (place_cmp vs p q)) (ranks_by (place_order vs) (λ p. p)) ps sorted i j 0 l b

-- ---- what is noted of each place

module _ (vs : List Value) where
  -- what is noted not to be the first is not
  abbrev pub Repeats : List Bool → Type 0
  Repeats noted = (p : ℕ) → p < length vs → get_or noted p true ≡ false → list_any (λ v. is_same v (value_at vs p)) (take p vs) ≡ true

  -- of two of the first so many places whose values tie, the later is noted
  abbrev pub Found : List Bool → List ℕ → ℕ → Type 0
  Found noted ps n = (a b : ℕ) → a < n → b < n → get_or ps a 0 < get_or ps b 0 → place_cmp vs (get_or ps a 0) (get_or ps b 0) ≡ Equal → get_or noted (get_or ps b 0) true ≡ false

  -- the least of those places that tie with the last of them
  pub record IsEarliest (ps : List ℕ) (i first : ℕ) : Type 0 where
    pub at : ℕ
    pub within : at ≤ i
    pub is : first ≡ get_or ps at 0
    pub ties : place_cmp vs first (get_or ps i 0) ≡ Equal
    pub least : (a : ℕ) → a ≤ i → place_cmp vs (get_or ps a 0) (get_or ps i 0) ≡ Equal → first ≤ get_or ps a 0

  pub repeats-more : (noted : List Bool) (q : ℕ) → Repeats noted → list_any (λ v. is_same v (value_at vs q)) (take q vs) ≡ true → Repeats (set noted q false)
  repeats-more noted q h k p b f = elim (cases_eq p q) [
    | inl e ↦ subst (λ p. list_any (λ v. is_same v (value_at vs p)) (take p vs) ≡ true) (sym e) k
    | inr n ↦ h p b (sym (get_or-set_other noted q p false true n) ∙ f)
  ]

  -- once all places were looked at, it is told of each
  pub are-firsts : (ps : List ℕ) (noted : List Bool) (n : ℕ) → IsPermutation (range_with_len 0 (length vs)) ps → length noted ≡ length vs → Repeats noted → Found noted ps n → length ps ≤ n → AreFirsts vs noted
  are-firsts ps noted n each long h found all-seen = record {
    count = long;
    told = λ p b. by p b (get_or noted p true) (list_any (λ v. is_same v (value_at vs p)) (take p vs)) refl refl;
  }
    where
      by : (p : ℕ) → p < length vs → (f a : Bool) → get_or noted p true ≡ f → list_any (λ v. is_same v (value_at vs p)) (take p vs) ≡ a
          → get_or noted p true ≡ not (list_any (λ v. is_same v (value_at vs p)) (take p vs))
      by p b false a e i = e ∙ sym (ap not (h p b e))
      by p b true false e i = e ∙ sym (ap not i)
      by p b true true e i =
          let any = Any-from_list_any (λ v. is_same v (value_at vs p)) (take p vs) i in
          let long : length (take p vs) ≡ p = length-take-le p vs (omega (arith, b)) in
          let less : any.0 < p = omega (arith, any.2, long) in
          let is : any.1 ≡ value_at vs any.0 = sym any.3 ∙ get_or-take p vs any.0 any.1 less ∙ get_or_default vs any.0 any.1 (value.Bool false) (omega (arith, less, b)) in
          let A = there vs ps each any.0 (omega (arith, less, b)) in
          let B = there vs ps each p b in
          let at-a : get_or ps A.0 0 ≡ any.0 = get_or_default ps A.0 0 any.0 A.1 ∙ A.2 in
          let at-b : get_or ps B.0 0 ≡ p = get_or_default ps B.0 0 p B.1 ∙ B.2 in
          let tie : place_cmp vs any.0 p ≡ Equal = is-equal (place_cmp vs any.0 p) (sym (same-ties (value_at vs any.0) (value_at vs p)) ∙ ap (λ v. is_same v (value_at vs p)) (sym is) ∙ any.4) in
          let seen = found A.0 B.0 (omega (arith, A.1, all-seen)) (omega (arith, B.1, all-seen)) (omega (arith, at-a, at-b, less)) (ap₂ (place_cmp vs) at-a at-b ∙ tie) in
          absurd (true≢false (sym e ∙ ap (λ q. get_or noted q true) (sym at-b) ∙ seen))

-- ---- ties

module _ (vs : List Value) where
  tie-back : (p q : ℕ) → place_cmp vs p q ≡ Equal → place_cmp vs q p ≡ Equal
  tie-back p q e = (place_order vs).antisymm q p ∙ ap ordering_reverse e

  tie-on : (p q r : ℕ) → place_cmp vs p q ≡ Equal → place_cmp vs q r ≡ Equal → place_cmp vs p r ≡ Equal
  tie-on p q r e f = (place_order vs).congr p q r e ∙ f

  tie-self : (p : ℕ) → place_cmp vs p p ≡ Equal
  tie-self p = even (place_cmp vs p p) ((place_order vs).antisymm p p)
    where
      even : (o : Ordering) → o ≡ ordering_reverse o → o ≡ Equal
      even Less e = absurd (true≢false (ap is_lt e))
      even Equal e = refl
      even Greater e = absurd (true≢false (sym (ap is_lt e)))

  seen-before : (p q : ℕ) → p < q → q < length vs → place_cmp vs p q ≡ Equal → list_any (λ v. is_same v (value_at vs q)) (take q vs) ≡ true
  seen-before p q l b tie =
      let long = length-take-le q vs (omega (arith, b)) in
      list_any_at (λ v. is_same v (value_at vs q)) (take q vs) p (value.Bool false) (omega (arith, l, long))
      (ap (λ v. is_same v (value_at vs q)) (get_or-take q vs p (value.Bool false) l) ∙ same-ties (value_at vs p) (value_at vs q) ∙ ap is_eq tie)

-- ---- one place more

module _ (vs : List Value) (ps : List ℕ) (each : IsPermutation (range_with_len 0 (length vs)) ps) (sorted : IsSorted (place_cmp vs) ps) (noted : List Bool) (i first : ℕ) (b : i + 1 < length ps)
    (found : Found vs noted ps (i + 1)) (earliest : IsEarliest vs ps i first) where
  abbrev at : ℕ → ℕ
  at k = get_or ps k 0

  abbrev tie : ℕ → ℕ → Type 0
  tie p q = place_cmp vs p q ≡ Equal

  -- its value ties with none before
  module _ (no : tie (at i) (at (i + 1)) → ⊥) where
    alone : (a : ℕ) → a ≤ i → tie (at a) (at (i + 1)) → ⊥
    alone a l t = no (between vs ps each sorted a i (i + 1) l (omega arith) b t)

    pub found-apart : Found vs noted ps (i + 2)
    found-apart a c m n l t = elim (cases_eq a (i + 1)) [
      | inl e ↦ elim (cases_eq c (i + 1)) [
        | inl f ↦ absurd (omega (arith, l, ap at e, ap at f))
        | inr f ↦ absurd (alone c (omega (arith, n, λ (z : c ≡ i + 1). f z)) (tie-back vs (at (i + 1)) (at c) (ap (λ k. place_cmp vs (at k) (at c)) (sym e) ∙ t)))
      ]
      | inr e ↦ elim (cases_eq c (i + 1)) [
        | inl f ↦ absurd (alone a (omega (arith, m, λ (z : a ≡ i + 1). e z)) (ap (λ k. place_cmp vs (at a) (at k)) (sym f) ∙ t))
        | inr f ↦ found a c (omega (arith, m, λ (z : a ≡ i + 1). e z)) (omega (arith, n, λ (z : c ≡ i + 1). f z)) l t
      ]
    ]

    pub earliest-apart : IsEarliest vs ps (i + 1) (at (i + 1))
    earliest-apart = record {
      at = i + 1;
      within = omega arith;
      is = refl;
      ties = tie-self vs (at (i + 1));
      least = λ a l t. elim (cases_eq a (i + 1)) [ inl e ↦ omega (arith, ap at e) | inr e ↦ absurd (alone a (omega (arith, l, λ (z : a ≡ i + 1). e z)) t) ];
    }

  -- it ties with the one before
  module _ (t : tie (at i) (at (i + 1))) where
    to-next : tie first (at (i + 1))
    to-next = tie-on vs first (at i) (at (i + 1)) earliest.ties t

    pub other : (first ≡ at (i + 1) → ⊥)
    other e = elsewhere vs ps each earliest.at (i + 1) (omega (arith, earliest.within)) b (sym earliest.is ∙ e)

    back : (a : ℕ) → a ≤ i → tie (at a) (at (i + 1)) → tie (at a) (at i)
    back a l u = tie-on vs (at a) (at (i + 1)) (at i) u (tie-back vs (at i) (at (i + 1)) t)

    module _ (later earlier : ℕ) (less : earlier < later) (which : ((later ≡ at (i + 1)) × (earlier ≡ first)) ⊎ ((later ≡ first) × (earlier ≡ at (i + 1)))) where
      pub later-below : later < length vs
      later-below = elim which [
        | inl w ↦ omega (arith, w.0, below vs ps each (i + 1) 0 b)
        | inr w ↦ omega (arith, w.0, earliest.is, below vs ps each earliest.at 0 (omega (arith, earliest.within, b)))
      ]

      pub repeats-same : Repeats vs noted → Repeats vs (set noted later false)
      repeats-same h =
          let tied : tie earlier later = elim which [
            | inl w ↦ ap₂ (place_cmp vs) w.1 w.0 ∙ to-next
            | inr w ↦ ap₂ (place_cmp vs) w.1 w.0 ∙ tie-back vs first (at (i + 1)) to-next
          ] in
          repeats-more vs noted later h (seen-before vs earlier later less later-below tied)

      pub earliest-same : IsEarliest vs ps (i + 1) earlier
      earliest-same = elim which [
        | inl w ↦ record {
          at = earliest.at;
          within = omega (arith, earliest.within);
          is = w.1 ∙ earliest.is;
          ties = ap (λ p. place_cmp vs p (at (i + 1))) w.1 ∙ to-next;
          least = λ a l u. elim (cases_eq a (i + 1)) [
            | inl e ↦ omega (arith, ap at e, w.0, less)
            | inr e ↦ let low : a ≤ i = omega (arith, l, λ (z : a ≡ i + 1). e z) in omega (arith, w.1, earliest.least a low (back a low u))
          ];
        }
        | inr w ↦ record {
          at = i + 1;
          within = omega arith;
          is = w.1;
          ties = ap (λ p. place_cmp vs p (at (i + 1))) w.1 ∙ tie-self vs (at (i + 1));
          least = λ a l u. elim (cases_eq a (i + 1)) [
            | inl e ↦ omega (arith, ap at e, w.1)
            | inr e ↦ let low : a ≤ i = omega (arith, l, λ (z : a ≡ i + 1). e z) in omega (arith, w.0, less, earliest.least a low (back a low u))
          ];
        }
      ]

      -- of two, of which the later is noted already or now
      noted-now : length noted ≡ length vs → (p : ℕ) → ((p ≡ later → ⊥) → get_or noted p true ≡ false) → get_or (set noted later false) p true ≡ false
      noted-now long p h = elim (cases_eq p later) [
        | inl e ↦ ap (λ n. get_or (set noted later false) n true) e ∙ get_or-set_same noted later false true (omega (arith, long, later-below))
        | inr n ↦ get_or-set_other noted later p false true n ∙ h n
      ]

      pub found-same : length noted ≡ length vs → Found vs (set noted later false) ps (i + 2)
      found-same long a c m n l u = noted-now long (at c) (λ ne. elim (cases_eq a (i + 1)) [
        | inl e ↦ elim (cases_eq c (i + 1)) [
          | inl f ↦ absurd (omega (arith, l, ap at e, ap at f))
          | inr f ↦
              let low : c ≤ i = omega (arith, n, λ (z : c ≡ i + 1). f z) in
              let to-c : tie (at (i + 1)) (at c) = ap (λ k. place_cmp vs (at k) (at c)) (sym e) ∙ u in
              let least = earliest.least c low (back c low (tie-back vs (at (i + 1)) (at c) to-c)) in
              let under : at earliest.at < at c = elim which [
                | inl w ↦ omega (arith, w.0, w.1, less, l, ap at e, earliest.is)
                | inr w ↦ omega (arith, least, earliest.is, λ (z : at c ≡ later). ne z, w.0)
              ] in
              found earliest.at c (omega (arith, earliest.within)) (omega (arith, low)) under
              (ap (λ p. place_cmp vs p (at c)) (sym earliest.is) ∙ tie-on vs first (at (i + 1)) (at c) to-next to-c)
        ]
        | inr e ↦ elim (cases_eq c (i + 1)) [
          | inl f ↦
              let low : a ≤ i = omega (arith, m, λ (z : a ≡ i + 1). e z) in
              let least = earliest.least a low (back a low (ap (λ k. place_cmp vs (at a) (at k)) (sym f) ∙ u)) in
              absurd (ne (elim which [ inl w ↦ ap at f ∙ sym w.0 | inr w ↦ absurd (omega (arith, w.0, w.1, less, least, l, ap at f)) ]))
          | inr f ↦ found a c (omega (arith, m, λ (z : a ≡ i + 1). e z)) (omega (arith, n, λ (z : c ≡ i + 1). f z)) l u
        ]
      ])

-- ---- a look at two that follow each other

module _ (vs : List Value) (rs : List Ranked) (h : AreInOrder vs rs) where
  abbrev pub places : List ℕ
  places = map (λ r. r.place) rs

  pub place-below : (n : ℕ) (d : Ranked) → n < length rs → (get_or rs n d).place < length vs
  place-below n d b =
      omega (arith, below vs places h.each n 0 (omega (arith, b, length-map rs (λ (r : Ranked). r.place))), get_or-map (λ (r : Ranked). r.place) rs n d 0 b)

  named : (n : ℕ) (r : Ranked) → n < length rs → r ≡ get_or rs n r → named_by vs r
  named n r b is = subst (named_by vs) (sym is) (All-from_recursion (named_by vs) rs h.ranked n r b)

  pub place-is : (n d : ℕ) (r : Ranked) → n < length rs → r ≡ get_or rs n r → r.place ≡ get_or places n d
  place-is n d r b is = ap (λ (r : Ranked). r.place) is ∙ sym (get_or-map (λ (r : Ranked). r.place) rs n r d b)

  pub head-none : (rs : List Ranked) → length rs < 1 → 0 ≡ get_or (map (λ r. r.place) rs) 0 0
  head-none [] b = refl
  head-none (r ∷ rs) b = absurd (omega (arith, b))

  pub found-none : (noted : List Bool) → Found vs noted places 1
  found-none noted a c m n l t = absurd (omega (arith, l, ap (λ k. get_or places k 0) {x = a} {y = c} (omega (arith, m, n))))

  pub earliest-none : (first : ℕ) → first ≡ get_or places 0 0 → IsEarliest vs places 0 first
  earliest-none first is = record {
    at = 0;
    within = omega arith;
    is = is;
    ties = ap (λ p. place_cmp vs p (get_or places 0 0)) is ∙ tie-self vs (get_or places 0 0);
    least = λ a l t. omega (arith, is, ap (λ k. get_or places k 0) {x = a} {y = 0} (omega (arith, l)));
  }

  module _ (i n : ℕ) (follows : i + 1 ≡ n) (b : n < length rs) (r s : Ranked) (before : r ≡ get_or rs i r) (one : s ≡ get_or rs n s) (noted : List Bool) (first : ℕ) (found : Found vs noted places n) (earliest : IsEarliest vs places i first) where
    within : i + 1 < length places
    within = omega (arith, b, follows, length-map rs (λ (r : Ranked). r.place))

    still : Found vs noted places (i + 1)
    still = subst (Found vs noted places) (sym follows) found

    here : s.place ≡ get_or places (i + 1) 0
    here = place-is n 0 s b one ∙ ap (λ k. get_or places k 0) (sym follows)

    tells : is_eq (place_cmp vs (get_or places i 0) (get_or places (i + 1) 0)) ≡ is_eq (identity_cmp r.identity s.identity)
    tells =
        let low : i < length rs = omega (arith, b, follows) in
        ap₂ (λ p q. is_eq (place_cmp vs p q)) (sym (place-is i 0 r low before)) (sym here) ∙ sym (same-ties (value_at vs r.place) (value_at vs s.place))
        ∙ sym (identity_ties r.identity s.identity (value_at vs r.place) (value_at vs s.place) (named i r low before) (named n s b one))

    pub step-apart : is_eq (identity_cmp r.identity s.identity) ≡ false → Found vs noted places (n + 1) × IsEarliest vs places (n + 1 - 1) s.place
    step-apart e =
        let no : (place_cmp vs (get_or places i 0) (get_or places (i + 1) 0) ≡ Equal → ⊥) = λ t. true≢false (ap is_eq (sym t) ∙ tells ∙ e) in (
          subst (Found vs noted places) {x = i + 2} {y = n + 1} (omega (arith, follows)) (found-apart vs places h.each h.sorted noted i first within still earliest no),
          subst (λ k. IsEarliest vs places k s.place) {x = i + 1} {y = n + 1 - 1} (omega (arith, follows))
              (subst (IsEarliest vs places (i + 1)) (sym here) (earliest-apart vs places h.each h.sorted noted i first within still earliest no)),
        )

    module _ (e : is_eq (identity_cmp r.identity s.identity) ≡ true) where
      tied : place_cmp vs (get_or places i 0) (get_or places (i + 1) 0) ≡ Equal
      tied = is-equal _ (tells ∙ e)

      pub differs : (first ≡ s.place → ⊥)
      differs f = other vs places h.each h.sorted noted i first within still earliest tied (f ∙ here)

      pub step-same : (later earlier : ℕ) → earlier < later → ((later ≡ s.place) × (earlier ≡ first)) ⊎ ((later ≡ first) × (earlier ≡ s.place)) → length noted ≡ length vs → Repeats vs noted
          → Repeats vs (set noted later false) × Found vs (set noted later false) places (n + 1) × IsEarliest vs places (n + 1 - 1) earlier
      step-same later earlier less which long repeats =
          let at-next : ((later ≡ get_or places (i + 1) 0) × (earlier ≡ first)) ⊎ ((later ≡ first) × (earlier ≡ get_or places (i + 1) 0)) = elim which [ inl w ↦ inl (w.0 ∙ here, w.1) | inr w ↦ inr (w.0, w.1 ∙ here) ] in (
            repeats-same vs places h.each h.sorted noted i first within still earliest tied later earlier less at-next repeats,
            subst (Found vs (set noted later false) places) {x = i + 2} {y = n + 1} (omega (arith, follows)) (found-same vs places h.each h.sorted noted i first within still earliest tied later earlier less at-next long),
            subst (λ k. IsEarliest vs places k earlier) {x = i + 1} {y = n + 1 - 1} (omega (arith, follows)) (earliest-same vs places h.each h.sorted noted i first within still earliest tied later earlier less at-next),
          )

    pub first-below : first < length vs
    first-below = omega (arith, earliest.is, below vs places h.each earliest.at 0 (omega (arith, earliest.within, within)))
