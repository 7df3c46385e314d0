-- Each node stands in the chain that is its home: what moves keep of that.
use Rattle.std.proofs.Common.{◌≡◌, ◌≢◌, ℕ, ◌+◌, ◌<◌, ◌≤◌, true, false, cond, List, [], ◌∷◌, length, get_or, set, refl, sym, ap, subst, ◌∙◌, arith, inl, inr, eqb, ltb}
use Rattle.std.specs.List.{swap}
use Rattle.std.proofs.lemmas.List.{get_or-set_same, get_or-set_other, length-set}
use Rattle.std.proofs.lemmas.Bool.{cases_eq, cases_lt, eqb-true, eqb-false, eq-eqb, ne_eqb, lt-ltb, le-ltb}
use Rattle.slot_chains.specs.Links.{Links, walk, chain, rest, count, Reach, IsInverse, IsStanding}
use Rattle.slot_chains.proofs.Walks.{without, walk_reached, reach_past, reach_same, reach_skip, reach_from, skip, count-same, count-other, length_bound, swap_first, swap_second, swap_other}

abbrev at : List ℕ → ℕ → ℕ
at xs i = get_or xs i 0

-- ---- chains that are known

module _ (c : Links) (n : ℕ) (size : length c.home ≡ n) where
  chain_is : (h : ℕ) (xs : List ℕ) → Reach n c.next (at c.next (n + h)) xs → length xs ≤ n → chain c h ≡ xs
  unfolding chain
  chain_is h xs = subst (λ m. Reach m c.next (at c.next (m + h)) xs → length xs ≤ m → walk (length c.home) c.next (length c.home) (at c.next (length c.home + h)) ≡ xs) size (λ r l. walk_reached (length c.home) c.next (length c.home) (at c.next (length c.home + h)) xs r l)

  pub rest_past : (a : ℕ) → n ≤ a → rest c a ≡ []
  unfolding rest
  rest_past a h = elim (ltb (at c.home a) c.heads) as (λ b. cond b (walk (length c.home) c.next (length c.home) a) [] ≡ []) [
    | true ↦ walk_reached (length c.home) c.next (length c.home) a [] (omega arith) (omega arith)
    | false ↦ refl
  ]

  pub rest_loose : (a : ℕ) → c.heads ≤ at c.home a → rest c a ≡ []
  unfolding rest
  rest_loose a h = rw (le-ltb (at c.home a) c.heads h) refl

  -- a list of nodes of one chain
  pub rest_placed : (a : ℕ) (xs : List ℕ) → at c.home a < c.heads → Reach n c.next a xs → length xs ≤ n → rest c a ≡ xs
  unfolding rest
  rest_placed a xs h = rw (lt-ltb (at c.home a) c.heads h) (subst (λ m. Reach m c.next a xs → length xs ≤ m → walk (length c.home) c.next (length c.home) a ≡ xs) size (λ r l. walk_reached (length c.home) c.next (length c.home) a xs r l))

-- what a function gives is each chain
module _ (c : Links) (n : ℕ) (size : length c.home ≡ n) (f : ℕ → List ℕ)
    (ends : (h : ℕ) → h < c.heads → Reach n c.next (at c.next (n + h)) (f h))
    (each : (h x : ℕ) → h < c.heads → x < n → count x (f h) ≡ cond (eqb (at c.home x) h) 1 0)
    (homes : (x : ℕ) → x < n → at c.home x ≤ c.heads) where
  pub once : (h : ℕ) → h < c.heads → (y : ℕ) → count y (f h) ≤ 1
  once h hh y = elim (cases_lt y n) [
    | inl l ↦ subst (λ m. m ≤ 1) (sym (each h y hh l)) (elim (eqb (at c.home y) h) as (λ b. cond b 1 0 ≤ 1) [ true ↦ omega arith | false ↦ omega arith ])
    | inr g ↦ omega (arith, reach_past n c.next (at c.next (n + h)) (f h) y (ends h hh) g)
  ]

  pub known_bound : (h : ℕ) → h < c.heads → length (f h) ≤ n
  known_bound h hh = length_bound n (f h) (once h hh) (λ y. reach_past n c.next (at c.next (n + h)) (f h) y (ends h hh))

  pub known_chain : (h : ℕ) → h < c.heads → chain c h ≡ f h
  known_chain h hh = chain_is c n size h (f h) (ends h hh) (known_bound h hh)

  pub known_standing : IsStanding c
  known_standing = record {
    ends = λ h hh. subst (λ m. Reach m c.next (at c.next (m + h)) (chain c h)) (sym size) (subst (λ xs. Reach n c.next (at c.next (n + h)) xs) (sym (known_chain h hh)) (ends h hh));
    each = λ h x hh hx. ap (count x) (known_chain h hh) ∙ each h x hh (subst (λ m. x < m) size hx);
    homes = λ x hx. homes x (subst (λ m. x < m) size hx);
  }

-- ---- what holds where each node stands in its home

module _ (c : Links) (s : IsStanding c) where
  abbrev n : ℕ
  n = length c.home

  pub count_past : (h y : ℕ) → h < c.heads → n ≤ y → count y (chain c h) ≡ 0
  count_past h y hh = reach_past n c.next (at c.next (n + h)) (chain c h) y (s.ends h hh)

  pub chain_bound : (h : ℕ) → h < c.heads → length (chain c h) ≤ n
  chain_bound h hh = known_bound c n refl (chain c) s.ends s.each s.homes h hh

  -- a node of a chain has it as its home
  pub home_of : (h y : ℕ) → h < c.heads → 0 < count y (chain c h) → (y < n) × (at c.home y ≡ h)
  home_of h y hh k = elim (cases_lt y n) [
    | inl l ↦ (
      l,
      elim (eqb (at c.home y) h) as (λ b. eqb (at c.home y) h ≡ b → count y (chain c h) ≡ cond b 1 0 → at c.home y ≡ h) [
        | true ↦ λ e _. eqb-true (at c.home y) h e
        | false ↦ λ e f. absurd (omega arith)
      ] refl (s.each h y hh l),
    )
    | inr g ↦ absurd (omega (arith, count_past h y hh g))
  ]

  pub stands_in : (y : ℕ) → y < n → at c.home y < c.heads → count y (chain c (at c.home y)) ≡ 1
  stands_in y hy h = s.each (at c.home y) y h hy ∙ ap (λ b. cond b 1 0) (eq-eqb (at c.home y) (at c.home y) refl)

  -- what is reached along some nodes of one chain
  pub rest_follow : (h b : ℕ) (ys : List ℕ) → h < c.heads → Reach n c.next b ys → ((z : ℕ) → count z ys ≤ count z (chain c h)) → length ys ≤ n → rest c b ≡ ys
  rest_follow h b [] hh r within l = rest_past c n refl b r
  rest_follow h b (y ∷ ys) hh r within l =
      let one : 0 < count y (y ∷ ys) = (let e : eqb y y ≡ true = eq-eqb y y refl in rw e (omega arith)) in
      let home : at c.home y ≡ h = (home_of h y hh (omega (arith, within y))).1 in
      rest_placed c n refl b (y ∷ ys) (subst (λ m. m < c.heads) (sym (ap (at c.home) r.0 ∙ home)) hh) r l

  pub rest_first : (h : ℕ) → h < c.heads → rest c (at c.next (n + h)) ≡ chain c h
  rest_first h hh = rest_follow h (at c.next (n + h)) (chain c h) hh (s.ends h hh) (λ z. omega arith) (chain_bound h hh)

  -- what follows a node
  pub record Follows (a : ℕ) : Type 0 where
    pub nodes : List ℕ
    pub reach : Reach n c.next a (a ∷ nodes)
    pub within : (z : ℕ) → count z (a ∷ nodes) ≤ count z (chain c (at c.home a))
    pub bound : length (a ∷ nodes) ≤ n

  pub follows : (a : ℕ) → a < n → at c.home a < c.heads → Follows a
  follows a ha h =
      let t = reach_from n c.next (at c.next (n + at c.home a)) (chain c (at c.home a)) a (s.ends (at c.home a) h) (omega (arith, stands_in a ha h)) in
      record { nodes = t.0; reach = t.1; within = t.3; bound = omega (arith, t.2, chain_bound (at c.home a) h) }

  pub rest_is : (a : ℕ) → (ha : a < n) → (h : at c.home a < c.heads) → rest c a ≡ a ∷ (follows a ha h).nodes
  rest_is a ha h = let f = follows a ha h in rest_follow (at c.home a) a (a ∷ f.nodes) h f.reach f.within f.bound

  pub rest_step : (a : ℕ) → a < n → at c.home a < c.heads → rest c a ≡ a ∷ rest c (at c.next a)
  rest_step a ha h = let f = follows a ha h in
      rest_is a ha h ∙ ap (λ ys. a ∷ ys) (sym (rest_follow (at c.home a) (at c.next a) f.nodes h f.reach.2 (λ z. omega (arith, f.within z)) (omega (arith, f.bound))))

  pub rest_once : (a y : ℕ) → count y (rest c a) ≤ 1
  rest_once a y = elim (cases_lt a n) [
    | inr g ↦ subst (λ ys. count y ys ≤ 1) (sym (rest_past c n refl a g)) (omega arith)
    | inl l ↦ elim (cases_lt (at c.home a) c.heads) [
      | inr g ↦ subst (λ ys. count y ys ≤ 1) (sym (rest_loose c n refl a g)) (omega arith)
      | inl h ↦ let f = follows a l h in subst (λ ys. count y ys ≤ 1) (sym (rest_is a l h))
          (omega (arith, f.within y, once c n refl (chain c) s.ends s.each s.homes (at c.home a) h y))
    ]
  ]

-- ---- a node leaves its chain

module _ (c : Links) (s : IsStanding c) (prev : List ℕ) (i : IsInverse c.next prev (length c.home + c.heads)) (x : ℕ) (hx : x < length c.home) where
  abbrev was : ℕ
  was = at prev x

  abbrev size : ℕ
  size = length c.home

  -- without x
  abbrev pub detached : Links
  detached = record { next = swap c.next was x; home = set c.home x c.heads; heads = c.heads }

  was_lt : was < length c.next
  was_lt = omega (arith, i.nexts, i.before x (omega arith))

  x_lt : x < length c.next
  x_lt = omega (arith, i.nexts)

  same_size : length (set c.home x c.heads) ≡ size
  same_size = length-set c.home x c.heads

  over : (a : ℕ) → a < size + c.heads → a ≢ x → at (swap c.next was x) a ≡ skip c.next x (at c.next a)
  over a ha d = elim (cases_eq a was) [
    | inl e ↦ ap (at (swap c.next was x)) e ∙ swap_first c.next was x was_lt x_lt
        ∙ sym (ap (λ b. cond b (at c.next x) (at c.next a)) (eq-eqb (at c.next a) x (ap (at c.next) e ∙ i.back x (omega arith))))
    | inr f ↦ swap_other c.next was x was_lt x_lt a f d
        ∙ sym (ap (λ b. cond b (at c.next x) (at c.next a)) (ne_eqb (at c.next a) x (λ e. f (sym (i.there a ha) ∙ ap (at prev) e))))
  ]

  start : (h : ℕ) → h < c.heads → at (swap c.next was x) (size + h) ≡ skip c.next x (at c.next (size + h))
  start h hh = over (size + h) (omega arith) (λ e. absurd (omega arith))

  ends_d : (h : ℕ) → h < c.heads → Reach size (swap c.next was x) (at (swap c.next was x) (size + h)) (without x (chain c h))
  ends_d h hh = subst (λ m. Reach size (swap c.next was x) m (without x (chain c h))) (sym (start h hh))
      (reach_skip size c.next (swap c.next was x) x hx (λ a ha. over a (omega arith)) (at c.next (size + h)) (chain c h) (s.ends h hh))

  each_d : (h y : ℕ) → h < c.heads → y < size → count y (without x (chain c h)) ≡ cond (eqb (at (set c.home x c.heads) y) h) 1 0
  each_d h y hh hy = elim (cases_eq y x) [
    | inl e ↦ ap (λ m. count m (without x (chain c h))) e ∙ count-same x (chain c h)
        ∙ sym (ap (λ b. cond b 1 0) (ne_eqb (at (set c.home x c.heads) y) h (λ f. let g : at (set c.home x c.heads) y ≡ c.heads = ap (at (set c.home x c.heads)) e ∙ get_or-set_same c.home x c.heads 0 hx in absurd (omega arith))))
    | inr d ↦ count-other x y (chain c h) d ∙ s.each h y hh hy ∙ ap (λ m. cond (eqb m h) 1 0) (sym (get_or-set_other c.home x y c.heads 0 d))
  ]

  homes_d : (y : ℕ) → y < size → at (set c.home x c.heads) y ≤ c.heads
  homes_d y hy = elim (cases_eq y x) [
    | inl e ↦ omega (arith, ap (at (set c.home x c.heads)) e ∙ get_or-set_same c.home x c.heads 0 hx)
    | inr d ↦ omega (arith, get_or-set_other c.home x y c.heads 0 d, s.homes y hy)
  ]

  pub IsStanding-detached : IsStanding detached
  IsStanding-detached = known_standing detached size same_size (λ h. without x (chain c h)) ends_d each_d homes_d

  pub loose-detached : at (swap c.next was x) x ≡ x
  loose-detached = swap_second c.next was x was_lt x_lt ∙ i.back x (omega arith)

-- ---- a node that stands in no chain comes first in one

module _ (c : Links) (s : IsStanding c) (prev : List ℕ) (i : IsInverse c.next prev (length c.home + c.heads)) (x : ℕ) (hx : x < length c.home) (loose : at c.next x ≡ x) (free : at c.home x ≡ c.heads) (h : ℕ) (hh : h < c.heads) where
  abbrev many : ℕ
  many = length c.home

  abbrev news : List ℕ
  news = swap c.next (many + h) x

  abbrev pub attached : Links
  attached = record { next = news; home = set c.home x h; heads = c.heads }

  head_lt : many + h < length c.next
  head_lt = omega (arith, i.nexts)

  node_lt : x < length c.next
  node_lt = omega (arith, i.nexts)

  size_a : length (set c.home x h) ≡ many
  size_a = length-set c.home x h

  others : (a : ℕ) → a ≢ (many + h) → a ≢ x → at news a ≡ at c.next a
  others = swap_other c.next (many + h) x head_lt node_lt

  keeps : (a : ℕ) → a < many → a ≢ x → at news a ≡ at c.next a
  keeps a ha = others a (λ e. absurd (omega arith))

  absent : (k : ℕ) → k < c.heads → count x (chain c k) ≡ 0
  absent k hk = s.each k x hk hx ∙ ap (λ b. cond b 1 0) (ne_eqb (at c.home x) k (λ e. absurd (omega arith)))

  -- the chains
  abbrev lists : ℕ → List ℕ
  lists k = cond (eqb k h) (x ∷ chain c k) (chain c k)

  ends_a : (k : ℕ) → k < c.heads → Reach many news (at news (many + k)) (lists k)
  ends_a k hk = elim (eqb k h) as (λ b. eqb k h ≡ b → Reach many news (at news (many + k)) (cond b (x ∷ chain c k) (chain c k))) [
    | true ↦ λ e.
        let kh : k ≡ h = eqb-true k h e in (
          ap (λ m. at news (many + m)) kh ∙ swap_first c.next (many + h) x head_lt node_lt ∙ loose,
          hx,
          subst (λ m. Reach many news m (chain c k)) (ap (λ m. at c.next (many + m)) kh ∙ sym (swap_second c.next (many + h) x head_lt node_lt))
              (reach_same many c.next news x keeps (at c.next (many + k)) (chain c k) (absent k hk) (s.ends k hk)),
        )
    | false ↦ λ e.
        subst (λ m. Reach many news m (chain c k)) (sym (others (many + k) (λ f. eqb-false k h e (omega arith)) (λ f. absurd (omega arith))))
        (reach_same many c.next news x keeps (at c.next (many + k)) (chain c k) (absent k hk) (s.ends k hk))
  ] refl

  each_a : (k y : ℕ) → k < c.heads → y < many → count y (lists k) ≡ cond (eqb (at (set c.home x h) y) k) 1 0
  each_a k y hk hy = elim (cases_eq y x) [
    | inl e ↦
        subst (λ m. count m (lists k) ≡ cond (eqb (at (set c.home x h) m) k) 1 0) (sym e)
        (elim (eqb k h) as (λ b. eqb k h ≡ b → count x (cond b (x ∷ chain c k) (chain c k)) ≡ cond (eqb (at (set c.home x h) x) k) 1 0) [
          | true ↦ λ f. ap (λ b. cond b 1 0 + count x (chain c k)) (eq-eqb x x refl) ∙ ap (λ m. 1 + m) (absent k hk)
              ∙ sym (ap (λ b. cond b 1 0) (eq-eqb (at (set c.home x h) x) k (get_or-set_same c.home x h 0 hx ∙ sym (eqb-true k h f))))
          | false ↦ λ f. absent k hk ∙ sym (ap (λ b. cond b 1 0) (ne_eqb (at (set c.home x h) x) k (λ g. eqb-false k h f (sym g ∙ get_or-set_same c.home x h 0 hx))))
        ] refl)
    | inr d ↦
        elim (eqb k h) as (λ b. count y (cond b (x ∷ chain c k) (chain c k)) ≡ count y (chain c k)) [
          | true ↦ ap (λ b. cond b 1 0 + count y (chain c k)) (ne_eqb x y (λ e. d (sym e))) ∙ omega arith
          | false ↦ refl
        ] ∙ s.each k y hk hy ∙ ap (λ m. cond (eqb m k) 1 0) (sym (get_or-set_other c.home x y h 0 d))
  ]

  homes_a : (y : ℕ) → y < many → at (set c.home x h) y ≤ c.heads
  homes_a y hy = elim (cases_eq y x) [
    | inl e ↦ omega (arith, ap (at (set c.home x h)) e ∙ get_or-set_same c.home x h 0 hx)
    | inr d ↦ omega (arith, get_or-set_other c.home x y h 0 d, s.homes y hy)
  ]

  pub IsStanding-attached : IsStanding attached
  IsStanding-attached = known_standing attached many size_a lists ends_a each_a homes_a

-- ---- no node stands in a chain yet

module _ (c : Links) (prev : List ℕ) (nexts : length c.next ≡ length c.home + c.heads) (prevs : length prev ≡ length c.home + c.heads)
    (same : (k : ℕ) → k < length c.home + c.heads → at c.next k ≡ k) (sames : (k : ℕ) → k < length c.home + c.heads → at prev k ≡ k)
    (loose : (x : ℕ) → x < length c.home → at c.home x ≡ c.heads) where
  pub IsStanding-new : IsStanding c
  IsStanding-new = known_standing c (length c.home) refl (λ h. [])
      (λ h hh. omega (arith, same (length c.home + h) (omega arith)))
      (λ h x hh hx. sym (ap (λ b. cond b 1 0) (ne_eqb (at c.home x) h (λ e. absurd (omega (arith, loose x hx))))))
      (λ x hx. omega (arith, loose x hx))

  pub IsInverse-new : IsInverse c.next prev (length c.home + c.heads)
  IsInverse-new = record {
    nexts = nexts;
    prevs = prevs;
    after = λ a h. omega (arith, same a h);
    before = λ a h. omega (arith, sames a h);
    there = λ a h. ap (at prev) (same a h) ∙ sames a h;
    back = λ a h. ap (at c.next) (sames a h) ∙ same a h;
  }
