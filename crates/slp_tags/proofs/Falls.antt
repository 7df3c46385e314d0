-- The falls of all pieces of a pattern, and of the signs of which falls are known so far.
use Rattle.std.proofs.Common.{◌≡◌, ℕ, suc, zero, ◌+◌, ◌-◌, ◌<◌, ◌≤◌, true, false, List, [], ◌∷◌, ◌++◌, length, take, drop, get_or, Some, None, refl, sym, ap, subst, ◌∙◌, arith, length-append, length-drop, inl, inr}
use Rattle.std.proofs.Math.Seq.{drop-nil}
use Rattle.std.proofs.lemmas.Bool.{cases_lt}
use Rattle.std.proofs.lemmas.List.{get_or-drop}
use Rattle.slp_tags.specs.Tags.{Sign}
use Rattle.slp_tags.specs.Searches.{front, has_front, star_at, has_at, starts, IsLongestEnd, AreFalls, ArePieceFalls}
use Rattle.slp_tags.proofs.Matches.{rest_all}
use Rattle.slp_tags.proofs.Searches.{front-more, true-false}

-- ---- falls further on

drop-more : {A : Type 0} (m n : ℕ) (xs : List A) → drop m (drop n xs) ≡ drop (n + m) xs
drop-more m zero xs = ap (λ j. drop j xs) (let e : m ≡ 0 + m = omega arith in e)
drop-more m (suc n) [] = drop-nil m ∙ sym (drop-nil (suc n + m))
drop-more m (suc n) (x ∷ xs) = drop-more m n xs ∙ (let e : suc n + m ≡ suc (n + m) = omega arith in sym (ap (λ j. drop j (x ∷ xs)) e))

star-later : (m n : ℕ) (p : List Sign) → star_at m (drop n p) ≡ star_at (n + m) p
star-later m zero p = ap (λ j. star_at j p) (let e : m ≡ 0 + m = omega arith in e)
star-later m (suc n) [] = refl
star-later m (suc n) (s ∷ ps) = star-later m n ps ∙ (let e : suc n + m ≡ suc (n + m) = omega arith in sym (ap (λ j. star_at j (s ∷ ps)) e))

at-later : (m n c : ℕ) (p : List Sign) → has_at m c (drop n p) ≡ has_at (n + m) c p
at-later m zero c p = ap (λ j. has_at j c p) (let e : m ≡ 0 + m = omega arith in e)
at-later m (suc n) c [] = refl
at-later m (suc n) c (s ∷ ps) = at-later m n c ps ∙ (let e : suc n + m ≡ suc (n + m) = omega arith in sym (ap (λ j. has_at j c (s ∷ ps)) e))

no-star : (n m : ℕ) (p : List Sign) → has_front n p ≡ true → m < n → star_at m p ≡ false
no-star zero m p h less = absurd (omega (arith, less))
no-star (suc n) m [] h less = absurd cc
no-star (suc n) m (None ∷ ps) h less = absurd cc
no-star (suc n) zero (Some c ∷ ps) h less = refl
no-star (suc n) (suc m) (Some c ∷ ps) h less = no-star n m ps h (omega (arith, less))

pub first-falls : (p : List Sign) (falls : List ℕ) → ArePieceFalls p falls → AreFalls p falls
first-falls p falls h = h 0 refl

starts-later : (m n : ℕ) (p : List Sign) → star_at n p ≡ true → starts m (drop (suc n) p) ≡ true → starts (suc n + m) p ≡ true
starts-later zero n p s h = let e : suc n ≡ suc n + 0 = omega arith in subst (λ j. starts j p ≡ true) e s
starts-later (suc m) n p s h = let e : suc (suc n + m) ≡ suc n + suc m = omega arith in subst (λ j. starts j p ≡ true) e (sym (star-later m (suc n) p) ∙ h)

pub later-falls : (p : List Sign) (falls : List ℕ) (n : ℕ) → star_at n p ≡ true → ArePieceFalls p falls → ArePieceFalls (drop (suc n) p) (drop (suc n) falls)
later-falls p falls n s h = λ m st.
    subst (λ q. AreFalls q (drop m (drop (suc n) falls))) (sym (drop-more m (suc n) p))
    (subst (λ f. AreFalls (drop (suc n + m) p) f) (sym (drop-more m (suc n) falls)) (h (suc n + m) (starts-later m n p s st)))

-- falls of which each is about a piece that begins where this one does not, unless it is this one
other-piece : (p : List Sign) (i m n st : ℕ) → starts m p ≡ true → 0 < n → m + n ≡ suc i → has_front n (drop m p) ≡ true
    → starts st p ≡ true → st ≤ i → has_front (suc i - st) (drop st p) ≡ true → m ≡ st
other-piece p i m n st sm some is hm ss within hs =
    elim (cases_lt m st) [
      | inl below ↦ crosses m n st sm ss below (omega (arith, is, within)) hm
      | inr rest ↦ elim (cases_lt st m) [
        | inl above ↦ sym (crosses st (suc i - st) m ss sm above (omega (arith, is, some)) hs)
        | inr equal ↦ omega (arith, rest, equal)
      ]
    ] where
      crosses : (a k b : ℕ) → starts a p ≡ true → starts b p ≡ true → a < b → b < a + k + 1 → has_front k (drop a p) ≡ true → a ≡ b
      crosses a k zero sa sb less within h = absurd (omega (arith, less))
      crosses a k (suc b) sa sb less within h =
          let at : a + (b - a) ≡ b = omega (arith, less) in
          let star : star_at (b - a) (drop a p) ≡ true = star-later (b - a) a p ∙ ap (λ j. star_at j p) at ∙ sb in
          true-false (star_at (b - a) (drop a p)) star (no-star k (b - a) (drop a p) h (omega (arith, less, within)))

get-last : (falls : List ℕ) (f n d : ℕ) → length falls ≡ n → get_or (falls ++ f ∷ []) n d ≡ f
get-last [] f n d h = rw (sym h) refl
get-last (x ∷ xs) f n d h = subst (λ j. get_or (x ∷ (xs ++ f ∷ [])) j d ≡ f) h (get-last xs f (length xs) d refl)

get-before : (falls : List ℕ) (f n d : ℕ) → n < length falls → get_or (falls ++ f ∷ []) n d ≡ get_or falls n d
get-before [] f n d h = absurd (omega (arith, h))
get-before (x ∷ xs) f zero d h = refl
get-before (x ∷ xs) f (suc n) d h = get-before xs f n d (omega (arith, h))

module _ (p : List Sign) (falls : List ℕ) (i f : ℕ) (h : ArePieceFalls p falls) (long : length falls ≡ suc i)
    (last : (m n : ℕ) → starts m p ≡ true → 0 < n → m + n ≡ suc i → has_front n (drop m p) ≡ true → IsLongestEnd (drop m p) f (drop 1 (front n (drop m p)))) where
  pushed : (m n : ℕ) → starts m p ≡ true → 0 < n → n < length (drop m (falls ++ f ∷ [])) → has_front n (drop m p) ≡ true
      → IsLongestEnd (drop m p) (get_or (drop m (falls ++ f ∷ [])) n 0) (drop 1 (front n (drop m p)))
  pushed m n st some less front-is =
      let cut = length-drop m (falls ++ f ∷ []) in
      let all = length-append falls (f ∷ []) in
      let q = drop m p in
      elim (cases_lt (m + n) (suc i)) [
        | inl before ↦
            let early : n < length (drop m falls) = let l = length-drop m falls in omega (arith, l, before, long) in
            let is : get_or (drop m falls) n 0 ≡ get_or (drop m (falls ++ f ∷ [])) n 0 =
            get_or-drop m falls n 0 ∙ sym (get-before falls f (m + n) 0 (omega (arith, before, long))) ∙ sym (get_or-drop m (falls ++ f ∷ []) n 0) in
            subst (λ x. IsLongestEnd q x (drop 1 (front n q))) is (h m st n some early front-is)
        | inr there ↦
            let at : m + n ≡ suc i = omega (arith, there, less, cut, all, long) in
            let is : f ≡ get_or (drop m (falls ++ f ∷ [])) n 0 = sym (get_or-drop m (falls ++ f ∷ []) n 0 ∙ get-last falls f (m + n) 0 (omega (arith, at, long))) in
            subst (λ x. IsLongestEnd q x (drop 1 (front n q))) is (last m n st some at front-is)
      ]

  pub falls-push : ArePieceFalls p (falls ++ f ∷ [])
  falls-push = λ m st n some less front-is. pushed m n st some less front-is

front-cut : (n : ℕ) (p : List Sign) → has_front (suc n) p ≡ true → star_at n p ≡ false
front-cut n p h = no-star (suc n) n p h (omega arith)

pub star-push : (p : List Sign) (falls : List ℕ) (i : ℕ) → ArePieceFalls p falls → length falls ≡ i + 1 → star_at i p ≡ true → ArePieceFalls p (falls ++ 0 ∷ [])
star-push p falls i h long star =
    falls-push p falls i 0 h (omega (arith, long))
    (λ m n st some at front-is.
    let k : m + (n - 1) ≡ i = omega (arith, at, some) in
    let s : star_at (n - 1) (drop m p) ≡ true = star-later (n - 1) m p ∙ ap (λ j. star_at j p) k ∙ star in
    true-false (star_at (n - 1) (drop m p)) s (no-star n (n - 1) (drop m p) front-is (omega (arith, some))))

pub character-push : (p : List Sign) (falls : List ℕ) (i st f : ℕ) → ArePieceFalls p falls → length falls ≡ i + 1 → starts st p ≡ true → st ≤ i → has_front (i - st + 1) (drop st p) ≡ true
    → IsLongestEnd (drop st p) f (drop 1 (front (i - st + 1) (drop st p))) → ArePieceFalls p (falls ++ f ∷ [])
character-push p falls i st f h long ss within front-is longest =
    let whole : i - st + 1 ≡ suc i - st = omega (arith, within) in
    falls-push p falls i f h (omega (arith, long))
    (λ m n sm some at has.
    let same : m ≡ st = other-piece p i m n st sm some at has ss within (subst (λ j. has_front j (drop st p) ≡ true) whole front-is) in
    let size : i - st + 1 ≡ n = omega (arith, at, same, within) in
    subst (λ s. IsLongestEnd (drop s p) f (drop 1 (front n (drop s p)))) (sym same) (subst (λ j. IsLongestEnd (drop st p) f (drop 1 (front j (drop st p)))) size longest))

-- ---- the piece that begins last

pub piece-at : (p : List Sign) (i st c : ℕ) → st ≤ i → has_at i c p ≡ true → has_at (i - st) c (drop st p) ≡ true
piece-at p i st c within at = let e : st + (i - st) ≡ i = omega (arith, within) in at-later (i - st) st c p ∙ ap (λ j. has_at j c p) e ∙ at

pub piece-more : (p : List Sign) (i st c : ℕ) → st ≤ i → has_front (i - st) (drop st p) ≡ true → has_at (i - st) c (drop st p) ≡ true → has_front (i - st + 1) (drop st p) ≡ true
piece-more p i st c within h at = let e : suc (i - st) ≡ i - st + 1 = omega arith in subst (λ j. has_front j (drop st p) ≡ true) e (front-more (i - st) c (drop st p) h at).1

pub cut-falls : (p : List Sign) (falls : List ℕ) (n : ℕ) → AreFalls (drop n p) (drop n falls) → AreFalls (take (length p - n) (drop n p)) (take (length falls - n) (drop n falls))
cut-falls p falls n h = subst (λ q. AreFalls q (take (length falls - n) (drop n falls))) (sym (rest_all n p)) (subst (λ f. AreFalls (drop n p) f) (sym (rest_all n falls)) h)

-- the falls of the first i signs, and where the piece begins that they end in
abbrev pub AreSoFar : List Sign → ℕ → ℕ → List ℕ → Type 0
AreSoFar p i st falls = (length falls ≡ i + 1) × (st ≤ i) × (starts st p ≡ true) × (has_front (i - st) (drop st p) ≡ true) × ArePieceFalls p falls

pub so_far-star : (p : List Sign) (i st later-st : ℕ) (falls more : List ℕ) → star_at i p ≡ true → later-st ≡ i + 1 → more ≡ falls ++ 0 ∷ []
    → AreSoFar p i st falls → AreSoFar p (i + 1) later-st more
so_far-star p i st later-st falls more star st-is falls-is h =
    let next : suc i ≡ i + 1 = omega arith in
    let none : i + 1 - later-st ≡ 0 = omega (arith, st-is) in (
      ap length falls-is ∙ (let all = length-append falls (0 ∷ []) in omega (arith, all, h.0)),
      omega (arith, st-is),
      subst (λ j. starts j p ≡ true) (next ∙ sym st-is) star,
      subst (λ j. has_front j (drop later-st p) ≡ true) (sym none) refl,
      subst (λ f. ArePieceFalls p f) (sym falls-is) (star-push p falls i h.4 h.0 star),
    )

pub so_far-character : (p : List Sign) (i st later-st f c : ℕ) (falls more : List ℕ) → has_at i c p ≡ true → later-st ≡ st → more ≡ falls ++ f ∷ []
    → IsLongestEnd (drop st p) f (drop 1 (front (i - st + 1) (drop st p))) → AreSoFar p i st falls → AreSoFar p (i + 1) later-st more
so_far-character p i st later-st f c falls more fits st-is falls-is longest h =
    let at = piece-at p i st c h.1 fits in
    let front-is = piece-more p i st c h.1 h.3 at in
    let long : i - st + 1 ≡ i + 1 - later-st = omega (arith, st-is, h.1) in (
      ap length falls-is ∙ (let all = length-append falls (f ∷ []) in omega (arith, all, h.0)),
      omega (arith, st-is, h.1),
      subst (λ j. starts j p ≡ true) (sym st-is) h.2,
      subst (λ j. has_front j (drop later-st p) ≡ true) long (subst (λ j. has_front (i - st + 1) (drop j p) ≡ true) (sym st-is) front-is),
      subst (λ fs. ArePieceFalls p fs) (sym falls-is) (character-push p falls i st f h.4 h.0 h.2 h.1 front-is longest),
    )
