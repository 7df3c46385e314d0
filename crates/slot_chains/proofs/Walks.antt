-- Lists of nodes and the links between them.
use Rattle.std.proofs.Common.{◌≡◌, ◌≢◌, ℕ, zero, suc, ◌+◌, ◌<◌, ◌≤◌, true, false, cond, List, [], ◌∷◌, length, get_or, set, refl, sym, ap, ap₂, subst, ◌∙◌, arith, inl, inr, eqb, ltb}
use Rattle.std.specs.List.{swap}
use Rattle.std.proofs.lemmas.List.{get_or-set_same, get_or-set_other, length-set}
use Rattle.std.proofs.lemmas.List.Edits.{swap_is, length-swap}
use Rattle.std.proofs.lemmas.Bool.{cases_eq, eqb-true, eqb-false, eq-eqb, ne_eqb, lt-ltb, le-ltb}
use Rattle.slot_chains.specs.Links.{walk, count, Reach, IsInverse}

abbrev at : List ℕ → ℕ → ℕ
at xs i = get_or xs i 0

-- ---- a swap, by its places

module _ (xs : List ℕ) (i j : ℕ) (hi : i < length xs) (hj : j < length xs) where
  is_swap : set (set xs i (at xs j)) j (at xs i) ≡ swap xs i j
  is_swap = swap_is xs i j 0 hi hj

  pub swap_second : at (swap xs i j) j ≡ at xs i
  swap_second = ap (λ ys. at ys j) (sym is_swap) ∙ get_or-set_same (set xs i (at xs j)) j (at xs i) 0 (omega (arith, length-set xs i (at xs j)))

  pub swap_first : at (swap xs i j) i ≡ at xs j
  swap_first = elim (cases_eq i j) [
    | inl e ↦ ap (at (swap xs i j)) e ∙ swap_second ∙ ap (at xs) e
    | inr d ↦ ap (λ ys. at ys i) (sym is_swap) ∙ get_or-set_other (set xs i (at xs j)) j i (at xs i) 0 d ∙ get_or-set_same xs i (at xs j) 0 hi
  ]

  pub swap_other : (k : ℕ) → k ≢ i → k ≢ j → at (swap xs i j) k ≡ at xs k
  swap_other k ni nj = ap (λ ys. at ys k) (sym is_swap) ∙ get_or-set_other (set xs i (at xs j)) j k (at xs i) 0 nj ∙ get_or-set_other xs i k (at xs j) 0 ni

-- ---- two nodes trade what follows them

module _ (next prev : List ℕ) (n a x : ℕ) (i : IsInverse next prev n) (ha : a < n) (hx : x < n) where
  abbrev nexts : List ℕ
  nexts = swap next a x

  abbrev prevs : List ℕ
  prevs = swap prev (at next a) (at next x)

  la : a < length next
  la = omega (arith, i.nexts)

  lx : x < length next
  lx = omega (arith, i.nexts)

  pa : at next a < length prev
  pa = omega (arith, i.prevs, i.after a ha)

  px : at next x < length prev
  px = omega (arith, i.prevs, i.after x hx)

  -- each number is a, x or another
  three : (c : ℕ) (P : Type 0) → (c ≡ a → P) → (c ≡ x → P) → (c ≢ a → c ≢ x → P) → P
  three c P fa fx fo = elim (cases_eq c a) [ inl e ↦ fa e | inr d ↦ elim (cases_eq c x) [ inl e ↦ fx e | inr f ↦ fo d f ] ]

  next_apart : (c d : ℕ) → c < n → d < n → c ≢ d → at next c ≢ at next d
  next_apart c d hc hd f = λ e. f (sym (i.there c hc) ∙ ap (at prev) e ∙ i.there d hd)

  after_c : (c : ℕ) → c < n → at nexts c < n
  after_c c hc = three c (at nexts c < n)
      (λ e. subst (λ m. m < n) (sym (ap (at nexts) e ∙ swap_first next a x la lx)) (i.after x hx))
      (λ e. subst (λ m. m < n) (sym (ap (at nexts) e ∙ swap_second next a x la lx)) (i.after a ha))
      (λ f g. subst (λ m. m < n) (sym (swap_other next a x la lx c f g)) (i.after c hc))

  there_c : (c : ℕ) → c < n → at prevs (at nexts c) ≡ c
  there_c c hc = three c (at prevs (at nexts c) ≡ c)
      (λ e. ap (λ m. at prevs (at nexts m)) e ∙ ap (at prevs) (swap_first next a x la lx) ∙ swap_second prev (at next a) (at next x) pa px ∙ i.there a ha ∙ sym e)
      (λ e. ap (λ m. at prevs (at nexts m)) e ∙ ap (at prevs) (swap_second next a x la lx) ∙ swap_first prev (at next a) (at next x) pa px ∙ i.there x hx ∙ sym e)
      (λ f g. ap (at prevs) (swap_other next a x la lx c f g) ∙ swap_other prev (at next a) (at next x) pa px (at next c) (next_apart c a hc ha f) (next_apart c x hc hx g) ∙ i.there c hc)

  -- a number that a or x led to, or another
  three_back : (c : ℕ) (P : Type 0) → (c ≡ at next a → P) → (c ≡ at next x → P) → (c ≢ at next a → c ≢ at next x → P) → P
  three_back c P fa fx fo = elim (cases_eq c (at next a)) [ inl e ↦ fa e | inr d ↦ elim (cases_eq c (at next x)) [ inl e ↦ fx e | inr f ↦ fo d f ] ]

  before_c : (c : ℕ) → c < n → at prevs c < n
  before_c c hc = three_back c (at prevs c < n)
      (λ e. subst (λ m. m < n) (sym (ap (at prevs) e ∙ swap_first prev (at next a) (at next x) pa px ∙ i.there x hx)) hx)
      (λ e. subst (λ m. m < n) (sym (ap (at prevs) e ∙ swap_second prev (at next a) (at next x) pa px ∙ i.there a ha)) ha)
      (λ f g. subst (λ m. m < n) (sym (swap_other prev (at next a) (at next x) pa px c f g)) (i.before c hc))

  prev_apart : (c d : ℕ) → c < n → c ≢ at next d → at prev c ≢ d
  prev_apart c d hc f = λ e. f (sym (i.back c hc) ∙ ap (at next) e)

  back_c : (c : ℕ) → c < n → at nexts (at prevs c) ≡ c
  back_c c hc = three_back c (at nexts (at prevs c) ≡ c)
      (λ e. ap (λ m. at nexts (at prevs m)) e ∙ ap (at nexts) (swap_first prev (at next a) (at next x) pa px ∙ i.there x hx) ∙ swap_second next a x la lx ∙ sym e)
      (λ e. ap (λ m. at nexts (at prevs m)) e ∙ ap (at nexts) (swap_second prev (at next a) (at next x) pa px ∙ i.there a ha) ∙ swap_first next a x la lx ∙ sym e)
      (λ f g. ap (at nexts) (swap_other prev (at next a) (at next x) pa px c f g) ∙ swap_other next a x la lx (at prev c) (prev_apart c a hc f) (prev_apart c x hc g) ∙ i.back c hc)

  pub IsInverse-trade : IsInverse (swap next a x) (swap prev (at next a) (at next x)) n
  IsInverse-trade = record {
    nexts = length-swap next a x ∙ i.nexts;
    prevs = length-swap prev (at next a) (at next x) ∙ i.prevs;
    after = after_c;
    before = before_c;
    there = there_c;
    back = back_c;
  }

-- ---- counts

-- the list without a number
abbrev pub without : ℕ → List ℕ → List ℕ
without x [] = []
without x (y ∷ ys) = cond (eqb y x) (without x ys) (y ∷ without x ys)

pub count-same : (x : ℕ) (xs : List ℕ) → count x (without x xs) ≡ 0
count-same x [] = refl
count-same x (y ∷ ys) = elim (eqb y x) as (λ b. eqb y x ≡ b → count x (cond b (without x ys) (y ∷ without x ys)) ≡ 0) [
  | true ↦ λ h. count-same x ys
  | false ↦ λ h. ap (λ b. cond b 1 0 + count x (without x ys)) h ∙ omega (arith, count-same x ys)
] refl

pub count-other : (x y : ℕ) (xs : List ℕ) → y ≢ x → count y (without x xs) ≡ count y xs
count-other x y [] d = refl
count-other x y (z ∷ zs) d = elim (eqb z x) as (λ b. eqb z x ≡ b → count y (cond b (without x zs) (z ∷ without x zs)) ≡ cond (eqb z y) 1 0 + count y zs) [
  | true ↦ λ h. count-other x y zs d ∙ (let e : eqb z y ≡ false = ne_eqb z y (λ e. d (sym e ∙ eqb-true z x h)) in rw e (omega arith))
  | false ↦ λ h. ap (λ m. cond (eqb z y) 1 0 + m) (count-other x y zs d)
] refl

pub without-absent : (x : ℕ) (xs : List ℕ) → count x xs ≡ 0 → without x xs ≡ xs
without-absent x [] = λ h. refl
without-absent x (y ∷ ys) = elim (eqb y x) as (λ b. cond b 1 0 + count x ys ≡ 0 → cond b (without x ys) (y ∷ without x ys) ≡ y ∷ ys) [
  | true ↦ λ h. absurd (omega arith)
  | false ↦ λ h. ap (λ zs. y ∷ zs) (without-absent x ys (omega arith))
]

pub length-without : (x : ℕ) (xs : List ℕ) → length (without x xs) + count x xs ≡ length xs
length-without x [] = refl
length-without x (y ∷ ys) = elim (eqb y x) as (λ b. length (cond b (without x ys) (y ∷ without x ys)) + (cond b 1 0 + count x ys) ≡ suc (length ys)) [
  | true ↦ omega (arith, length-without x ys)
  | false ↦ omega (arith, length-without x ys)
]

-- as many nodes as there are, where none comes twice
pub length_bound : (n : ℕ) (xs : List ℕ) → ((y : ℕ) → count y xs ≤ 1) → ((y : ℕ) → n ≤ y → count y xs ≡ 0) → length xs ≤ n
length_bound n [] once past = omega arith
length_bound zero (x ∷ xs) once past =
    let e : cond (eqb x x) 1 0 + count x xs ≡ 0 = past x (omega arith) in
    let f : eqb x x ≡ true = eq-eqb x x refl in
    absurd (let g = rw f at e in omega arith)
length_bound (suc n) (x ∷ xs) once past =
    let shorter : length (without n (x ∷ xs)) ≤ n = length_bound n (without n (x ∷ xs))
    (λ y. elim (cases_eq y n) [ inl e ↦ subst (λ m. count m (without n (x ∷ xs)) ≤ 1) (sym e) (omega (arith, count-same n (x ∷ xs))) | inr d ↦ subst (λ m. m ≤ 1) (sym (count-other n y (x ∷ xs) d)) (once y) ])
    (λ y h. elim (cases_eq y n) [ inl e ↦ subst (λ m. count m (without n (x ∷ xs)) ≡ 0) (sym e) (count-same n (x ∷ xs)) | inr d ↦ count-other n y (x ∷ xs) d ∙ past y (omega arith) ])
    in omega (arith, length-without n (x ∷ xs), once n)

-- ---- a walk

pub walk_reached : (n : ℕ) (next : List ℕ) (k a : ℕ) (xs : List ℕ) → Reach n next a xs → length xs ≤ k → walk n next k a ≡ xs
walk_reached n next zero a [] r h = refl
walk_reached n next (suc k) a [] r h = rw (le-ltb a n r) refl
walk_reached n next zero a (x ∷ xs) r h = absurd (omega arith)
walk_reached n next (suc k) a (x ∷ xs) r h =
    let e : ltb a n ≡ true = lt-ltb a n (subst (λ m. m < n) (sym r.0) r.1) in
    ap (λ b. cond b (a ∷ walk n next k (at next a)) []) e ∙ ap₂ (λ y ys. y ∷ ys) r.0 (ap (λ m. walk n next k (at next m)) r.0 ∙ walk_reached n next k (at next x) xs r.2 (omega arith))

pub reach_past : (n : ℕ) (next : List ℕ) (a : ℕ) (xs : List ℕ) (y : ℕ) → Reach n next a xs → n ≤ y → count y xs ≡ 0
reach_past n next a [] y r h = refl
reach_past n next a (x ∷ xs) y r h =
    let e : eqb x y ≡ false = ne_eqb x y (λ e. absurd (omega (arith, r.1))) in
    ap (λ b. cond b 1 0 + count y xs) e ∙ omega (arith, reach_past n next (at next x) xs y r.2 h)

-- the same links at the nodes of the list
pub reach_same : (n : ℕ) (next news : List ℕ) (x : ℕ) → ((a : ℕ) → a < n → a ≢ x → at news a ≡ at next a) → (a : ℕ) (xs : List ℕ) → count x xs ≡ 0 → Reach n next a xs → Reach n news a xs
reach_same n next news x same a [] = λ c r. r
reach_same n next news x same a (y ∷ ys) =
    elim (eqb y x) as (λ b. eqb y x ≡ b → cond b 1 0 + count x ys ≡ 0 → Reach n next a (y ∷ ys) → Reach n news a (y ∷ ys)) [
      | true ↦ λ e h r. absurd (omega arith)
      | false ↦ λ e h r. (r.0, r.1, subst (λ m. Reach n news m ys) (sym (same y r.1 (eqb-false y x e))) (reach_same n next news x same (at next y) ys (omega arith) r.2))
    ] refl

-- past x, to what follows it
abbrev pub skip : List ℕ → ℕ → ℕ → ℕ
skip next x b = cond (eqb b x) (at next x) b

skip-at : (next : List ℕ) (x : ℕ) → skip next x (at next x) ≡ at next x
skip-at next x = elim (eqb (at next x) x) as (λ b. cond b (at next x) (at next x) ≡ at next x) [ true ↦ refl | false ↦ refl ]

-- x is passed over
pub reach_skip : (n : ℕ) (next news : List ℕ) (x : ℕ) → x < n → ((a : ℕ) → a < n → a ≢ x → at news a ≡ skip next x (at next a)) → (a : ℕ) (xs : List ℕ) → Reach n next a xs → Reach n news (skip next x a) (without x xs)
reach_skip n next news x hx over a [] r =
    let e : eqb a x ≡ false = ne_eqb a x (λ e. absurd (omega arith)) in rw e r
reach_skip n next news x hx over a (y ∷ ys) r =
    elim (eqb y x) as (λ b. eqb y x ≡ b → Reach n news (skip next x a) (cond b (without x ys) (y ∷ without x ys))) [
      | true ↦ λ e.
          let yx : y ≡ x = eqb-true y x e in
          let more : Reach n news (skip next x (at next y)) (without x ys) = reach_skip n next news x hx over (at next y) ys r.2 in
          let to : skip next x (at next y) ≡ skip next x a = ap (λ m. skip next x (at next m)) yx ∙ skip-at next x ∙ sym (ap (λ b. cond b (at next x) a) (ap (λ m. eqb m x) r.0 ∙ e)) in
          subst (λ m. Reach n news m (without x ys)) to more
      | false ↦ λ e.
          let more : Reach n news (skip next x (at next y)) (without x ys) = reach_skip n next news x hx over (at next y) ys r.2 in
          let here : skip next x a ≡ y = ap (λ b. cond b (at next x) a) (ap (λ m. eqb m x) r.0 ∙ e) ∙ r.0 in
          (here, r.1, subst (λ m. Reach n news m (without x ys)) (sym (over y r.1 (eqb-false y x e))) more)
    ] refl

-- a node of the list, and what comes after it
pub reach_from : (n : ℕ) (next : List ℕ) (a : ℕ) (xs : List ℕ) (y : ℕ) → Reach n next a xs → 0 < count y xs → (ys : List ℕ) × Reach n next y (y ∷ ys) × (length (y ∷ ys) ≤ length xs) × ((z : ℕ) → count z (y ∷ ys) ≤ count z xs)
reach_from n next a [] y r = λ h. absurd (omega arith)
reach_from n next a (x ∷ xs) y r =
    elim (eqb x y) as (λ b. eqb x y ≡ b → 0 < cond b 1 0 + count y xs → (ys : List ℕ) × Reach n next y (y ∷ ys) × (length (y ∷ ys) ≤ length (x ∷ xs)) × ((z : ℕ) → count z (y ∷ ys) ≤ count z (x ∷ xs))) [
      | true ↦ λ e h. let xy : x ≡ y = eqb-true x y e in
          (xs, (refl, subst (λ m. m < n) xy r.1, subst (λ m. Reach n next (at next m) xs) xy r.2), omega arith, λ z. subst (λ m. count z (m ∷ xs) ≤ count z (x ∷ xs)) xy (omega arith))
      | false ↦ λ e h. let t = reach_from n next (at next x) xs y r.2 (omega arith) in
          (t.0, t.1, omega (arith, t.2), λ z. omega (arith, t.3 z))
    ] refl
