-- Where a search goes on, and that it misses nothing.
use Rattle.std.proofs.Common.{◌≡◌, ℕ, suc, zero, ◌+◌, ◌<◌, ◌≤◌, Bool, true, false, ◌||◌, ◌&&◌, ◌==◌, List, [], ◌∷◌, ◌++◌, length, drop, get_or, Some, None, refl, sym, ap, ap₂, subst, ◌∙◌, arith, eqb-true, length-append, length-drop, append_assoc, append-nil, inl, inr}
use Rattle.std.specs.List.{list_any}
use Rattle.std.proofs.lemmas.Bool.{cases_lt, eqb-false}
use Rattle.slp_tags.specs.Tags.{Sign, ends_of, is_match}
use Rattle.slp_tags.specs.Searches.{front, has_front, star_at, has_at, EndsWith, IsLongestEnd, finds}
use Rattle.slp_tags.proofs.Matches.{both_ways, later, whole_end, second_of}

-- ---- fronts

pub length-front : (n : ℕ) (p : List Sign) → has_front n p ≡ true → length (front n p) ≡ n
length-front zero p h = refl
length-front (suc n) [] h = absurd cc
length-front (suc n) (None ∷ ps) h = absurd cc
length-front (suc n) (Some c ∷ ps) h = ap suc (length-front n ps h)

pub same : (n : ℕ) → (n == n) ≡ true
same n = elim (n == n) as (λ b. (n == n) ≡ b → b ≡ true) [ true ↦ λ e. refl | false ↦ λ e. absurd (eqb-false n n e refl) ] refl

pub front-more : (n c : ℕ) (p : List Sign) → has_front n p ≡ true → has_at n c p ≡ true → (front (suc n) p ≡ front n p ++ c ∷ []) × (has_front (suc n) p ≡ true)
front-more zero c [] h k = absurd cc
front-more zero c (None ∷ ps) h k = absurd cc
front-more zero c (Some d ∷ ps) h k = (ap (λ x. x ∷ []) (eqb-true d c k), refl)
front-more (suc n) c [] h k = absurd cc
front-more (suc n) c (None ∷ ps) h k = absurd cc
front-more (suc n) c (Some d ∷ ps) h k = let more = front-more n c ps h k in (ap (λ xs. d ∷ xs) more.0, more.1)

last-front : (n : ℕ) (p : List Sign) → has_front (suc n) p ≡ true → (c : ℕ) × (has_front n p ≡ true) × (has_at n c p ≡ true) × (front (suc n) p ≡ front n p ++ c ∷ [])
last-front n [] h = absurd cc
last-front n (None ∷ ps) h = absurd cc
last-front zero (Some d ∷ ps) h = (d, refl, same d, refl)
last-front (suc n) (Some d ∷ ps) h = let last = last-front n ps h in (last.0, last.1, last.2, ap (λ xs. d ∷ xs) last.3)

pub front-within : (n : ℕ) (p : List Sign) → has_front n p ≡ true → n ≤ length p
front-within zero p h = omega arith
front-within (suc n) [] h = absurd cc
front-within (suc n) (None ∷ ps) h = absurd cc
front-within (suc n) (Some c ∷ ps) h = let within = front-within n ps h in omega (arith, within)

pub at-within : (n c : ℕ) (p : List Sign) → has_at n c p ≡ true → n < length p
at-within n c [] h = absurd cc
at-within zero c (s ∷ ps) h = omega arith
at-within (suc n) c (s ∷ ps) h = let within = at-within n c ps h in omega (arith, within)

pub star-within : (n : ℕ) (p : List Sign) → star_at n p ≡ true → n < length p
star-within n [] h = absurd cc
star-within zero (s ∷ ps) h = omega arith
star-within (suc n) (s ∷ ps) h = let within = star-within n ps h in omega (arith, within)

-- ---- ends of texts

pub snoc-same : (xs ys : List ℕ) (x y : ℕ) → xs ++ x ∷ [] ≡ ys ++ y ∷ [] → (xs ≡ ys) × (x ≡ y)
snoc-same [] [] x y e = (refl, ap (λ l. get_or l 0 x) e)
snoc-same [] (b ∷ bs) x y e = let k = ap length e in let l = length-append bs (y ∷ []) in absurd (omega (arith, k, l))
snoc-same (a ∷ more) [] x y e = let k = ap length e in let l = length-append more (x ∷ []) in absurd (omega (arith, k, l))
snoc-same (a ∷ more) (b ∷ bs) x y e =
    let rest = snoc-same more bs x y (ap (drop 1) e) in
    (ap₂ (λ h t. h ∷ t) (ap (λ l. get_or l 0 a) e) rest.0, rest.1)

pub ends-more : (p : List Sign) (n c : ℕ) (text : List ℕ) → EndsWith p n text → has_at n c p ≡ true → EndsWith p (suc n) (text ++ c ∷ [])
ends-more p n c text h at =
    let more = front-more n c p h.2 at in
    (h.0, ap (λ t. t ++ c ∷ []) h.1 ∙ append_assoc h.0 (front n p) (c ∷ []) ∙ ap (λ f. h.0 ++ f) (sym more.0), more.1)

pub ends-less : (p : List Sign) (n c : ℕ) (text : List ℕ) → EndsWith p (suc n) (text ++ c ∷ []) → EndsWith p n text × (has_at n c p ≡ true)
ends-less p n c text h =
    let last = last-front n p h.2 in
    let parts = snoc-same text (h.0 ++ front n p) c last.0 (h.1 ∙ ap (λ f. h.0 ++ f) last.3 ∙ sym (append_assoc h.0 (front n p) (last.0 ∷ []))) in
    ((h.0, parts.0, last.1), subst (λ d. has_at n d p ≡ true) (sym parts.1) last.2)

pub ends-within : (p : List Sign) (n : ℕ) (text : List ℕ) → EndsWith p n text → n ≤ length text
ends-within p n text h =
    let k = ap length h.1 in let l = length-append h.0 (front n p) in let m = length-front n p h.2 in omega (arith, k, l, m)

-- of two ways to cut a list, the later cut is within the end of the earlier
cut-later : (a b x y : List ℕ) → a ++ x ≡ b ++ y → length a < length b → (d : ℕ) × (m : List ℕ) × (x ≡ d ∷ (m ++ y))
cut-later a [] x y e less = absurd (omega (arith, less))
cut-later [] (d ∷ m) x y e less = (d, m, e)
cut-later (c ∷ more) (d ∷ m) x y e less = cut-later more m x y (ap (drop 1) e) (omega (arith, less))

dropped-end : (xs ys : List ℕ) → ((d : ℕ) × (m : List ℕ) × (xs ≡ d ∷ (m ++ ys))) → (before : List ℕ) × (drop 1 xs ≡ before ++ ys)
dropped-end xs ys h = (h.1, ap (drop 1) h.2)

-- what a text ends with, and less, one of the two ends with
front-ends : (p : List Sign) (m n : ℕ) (text : List ℕ) → EndsWith p m text → EndsWith p n text → n < m → EndsWith p n (drop 1 (front m p))
front-ends p m n text h k less =
    let lengths : length (h.0 ++ front m p) ≡ length (k.0 ++ front n p) = ap length (sym h.1 ∙ k.1) in
    let first = length-append h.0 (front m p) in
    let second = length-append k.0 (front n p) in
    let long = length-front m p h.2 in
    let short = length-front n p k.2 in
    let cut = cut-later h.0 k.0 (front m p) (front n p) (sym h.1 ∙ k.1) (omega (arith, lengths, first, second, long, short, less)) in
    let end = dropped-end (front m p) (front n p) cut in
    (end.0, end.1, k.2)

first-off : (xs : List ℕ) → (a : List ℕ) × (xs ≡ a ++ drop 1 xs)
first-off [] = ([], refl)
first-off (x ∷ xs) = (x ∷ [], refl)

text-ends : (p : List Sign) (m n : ℕ) (text : List ℕ) → EndsWith p m text → EndsWith p n (drop 1 (front m p)) → EndsWith p n text
text-ends p m n text h k =
    let off = first-off (front m p) in (
      h.0 ++ (off.0 ++ k.0),
      h.1 ∙ ap (λ f. h.0 ++ f) (off.1 ∙ ap (λ f. off.0 ++ f) k.1 ∙ sym (append_assoc off.0 k.0 (front n p))) ∙ sym (append_assoc h.0 (off.0 ++ k.0) (front n p)),
      k.2,
    )

pub fall-less : (p : List Sign) (m n : ℕ) → 0 < m → has_front m p ≡ true → EndsWith p n (drop 1 (front m p)) → n < m
fall-less p m n some h k = let within = ends-within p n (drop 1 (front m p)) k in let long = length-front m p h in let l = length-drop 1 (front m p) in omega (arith, within, long, l, some)

pub self-longest : (p : List Sign) (n : ℕ) → has_front n p ≡ true → IsLongestEnd p n (front n p)
self-longest p n h = (([], refl, h), λ m more k. let within = ends-within p m (front n p) k in let long = length-front n p h in absurd (omega (arith, within, long, more)))

pub nothing-longest : (p : List Sign) → IsLongestEnd p 0 []
nothing-longest p = self-longest p 0 refl

-- ---- one character more

-- the text still ends with n of the signs, and with more of them only where the character does not fit
abbrev pub Falls : List Sign → ℕ → ℕ → List ℕ → Type 0
Falls p n c text = EndsWith p n text × ((m : ℕ) → n < m → EndsWith p m text → has_at m c p ≡ false)

pub true-false : {A : Type 0} (b : Bool) → b ≡ true → b ≡ false → A
true-false true t f = absurd cc
true-false false t f = absurd cc

pub falls-first : (p : List Sign) (n c : ℕ) (text : List ℕ) → IsLongestEnd p n text → Falls p n c text
falls-first p n c text h = (h.0, λ m more k. absurd (h.1 m more k))

pub falls-next : (p : List Sign) (n f c : ℕ) (text : List ℕ) → has_at n c p ≡ false → IsLongestEnd p f (drop 1 (front n p)) → Falls p n c text → Falls p f c text
falls-next p n f c text not fall h = (
  text-ends p n f text h.0 fall.0,
  λ m more k. elim (cases_lt n m) [
    | inl above ↦ h.1 m above k
    | inr rest ↦ elim (cases_lt m n) [
      | inl below ↦ absurd (fall.1 m more (front-ends p n m text h.0 k below))
      | inr equal ↦ let e : n ≡ m = omega (arith, rest, equal) in subst (λ j. has_at j c p ≡ false) e not
    ]
  ],
)

pub longest-more : (p : List Sign) (n c : ℕ) (text : List ℕ) → has_at n c p ≡ true → Falls p n c text → IsLongestEnd p (suc n) (text ++ c ∷ [])
longest-more p n c text at h = (
  ends-more p n c text h.0 at,
  λ m more k. elim m as (λ j. suc n < j → EndsWith p j (text ++ c ∷ []) → ⊥) [
    | zero ↦ λ l e. absurd (omega (arith, l))
    | suc j ↦ λ l e. let less = ends-less p j c text e in true-false (has_at j c p) less.1 (h.1 j (omega (arith, l)) less.0)
  ] more k,
)

pub longest-none : (p : List Sign) (c : ℕ) (text : List ℕ) → has_at 0 c p ≡ false → Falls p 0 c text → IsLongestEnd p 0 (text ++ c ∷ [])
longest-none p c text not h = (
  (text ++ c ∷ [], sym (append-nil (text ++ c ∷ [])), refl),
  λ m more k. elim m as (λ j. 0 < j → EndsWith p j (text ++ c ∷ []) → ⊥) [
    | zero ↦ λ l e. absurd (omega (arith, l))
    | suc j ↦ λ l e.
        let less = ends-less p j c text e in
        elim (cases_lt 0 j) [
          | inl some ↦ true-false (has_at j c p) less.1 (h.1 j some less.0)
          | inr none ↦ let z : j ≡ 0 = omega (arith, none) in true-false (has_at 0 c p) (subst (λ i. has_at i c p ≡ true) z less.1) not
        ]
  ] more k,
)

pub one-longest : (p : List Sign) (n : ℕ) → n ≡ 0 → IsLongestEnd p 0 (drop 1 (front (n + 1) p))
one-longest [] n e = rw e (nothing-longest [])
one-longest (None ∷ ps) n e = rw e (nothing-longest (None ∷ ps))
one-longest (Some c ∷ ps) n e = rw e (nothing-longest (Some c ∷ ps))

drop-first : (xs ys : List ℕ) → 0 < length xs → drop 1 xs ++ ys ≡ drop 1 (xs ++ ys)
drop-first [] ys h = absurd (omega (arith, h))
drop-first (x ∷ xs) ys h = refl

pub more-dropped : (n c : ℕ) (p : List Sign) → 0 < n → has_front n p ≡ true → has_at n c p ≡ true → drop 1 (front n p) ++ c ∷ [] ≡ drop 1 (front (n + 1) p)
more-dropped n c p some h at =
    let long = length-front n p h in
    let e : suc n ≡ n + 1 = omega arith in
    drop-first (front n p) (c ∷ []) (omega (arith, some, long)) ∙ ap (drop 1) (sym (front-more n c p h at).0 ∙ ap (λ j. front j p) e)

-- ---- what a search finds

-- the first n signs are no stars
abbrev lacks_star : ℕ → List Sign → Bool
lacks_star zero p = true
lacks_star (suc n) [] = true
lacks_star (suc n) (None ∷ ps) = false
lacks_star (suc n) (Some c ∷ ps) = lacks_star n ps

lacks-more : (n : ℕ) (p : List Sign) → has_front n p ≡ true → star_at n p ≡ false → lacks_star (suc n) p ≡ true
lacks-more zero [] h s = refl
lacks-more zero (None ∷ ps) h s = absurd cc
lacks-more zero (Some c ∷ ps) h s = refl
lacks-more (suc n) [] h s = absurd cc
lacks-more (suc n) (None ∷ ps) h s = absurd cc
lacks-more (suc n) (Some c ∷ ps) h s = lacks-more n ps h s

lacks-less : (n : ℕ) (p : List Sign) → lacks_star (suc n) p ≡ true → lacks_star n p ≡ true
lacks-less zero p h = refl
lacks-less (suc n) [] h = refl
lacks-less (suc n) (None ∷ ps) h = absurd cc
lacks-less (suc n) (Some c ∷ ps) h = lacks-less n ps h

pub first-of : (a b : Bool) → (a && b) ≡ true → a ≡ true
first-of true b h = refl
first-of false b h = cc

agrees : (p : List Sign) (x rest : List ℕ) → lacks_star (length x) p ≡ true → is_match p (x ++ rest) ≡ true → (has_front (length x) p ≡ true) × (front (length x) p ≡ x)
agrees p [] rest l h = (refl, refl)
agrees [] (d ∷ ds) rest l h = absurd cc
agrees (None ∷ ps) (d ∷ ds) rest l h = absurd cc
agrees (Some c ∷ ps) (d ∷ ds) rest l h =
    let more = agrees ps ds rest l (second_of (c == d) (is_match ps (ds ++ rest)) h) in
    (more.0, ap₂ (λ a cs. a ∷ cs) (eqb-true c d (first-of (c == d) (is_match ps (ds ++ rest)) h)) more.1)

false-or : (a b : Bool) → a ≡ false → (a || b) ≡ b
false-or true b h = cc
false-or false b h = refl

-- only the longest end of what came may still be the beginning of what is searched for
pub longest-finds : (p : List Sign) (x rest : List ℕ) (m : ℕ) → lacks_star (length x) p ≡ true → IsLongestEnd p m x
    → list_any (is_match p) (ends_of (x ++ rest)) ≡ list_any (is_match p) (ends_of (front m p ++ rest))
longest-finds p [] rest m l h =
    elim h.0.0 as (λ b. [] ≡ b ++ front m p → list_any (is_match p) (ends_of rest) ≡ list_any (is_match p) (ends_of (front m p ++ rest))) [
      | [] ↦ λ e. ap (λ f. list_any (is_match p) (ends_of (f ++ rest))) e
      | b ∷ bs ↦ λ e. let k = ap length e in absurd (omega (arith, k))
    ] h.0.1
longest-finds p (d ∷ ds) rest m l h =
    elim h.0.0 as (λ b. d ∷ ds ≡ b ++ front m p → list_any (is_match p) (ends_of (d ∷ (ds ++ rest))) ≡ list_any (is_match p) (ends_of (front m p ++ rest))) [
      | [] ↦ λ e. ap (λ f. list_any (is_match p) (ends_of (f ++ rest))) e
      | b ∷ bs ↦ λ e.
          let no : is_match p (d ∷ (ds ++ rest)) ≡ false =
          elim (is_match p (d ∷ (ds ++ rest))) as (λ t. is_match p (d ∷ (ds ++ rest)) ≡ t → t ≡ false) [
            | true ↦ λ t.
                let a = agrees p (d ∷ ds) rest l t in
                let k = ap length e in
                let n = length-append bs (front m p) in
                let f = length-front m p h.0.2 in
                absurd (h.1 (length (d ∷ ds)) (omega (arith, k, n, f)) ([], sym a.1, a.0))
            | false ↦ λ t. refl
          ] refl in
          false-or (is_match p (d ∷ (ds ++ rest))) (list_any (is_match p) (ends_of (ds ++ rest))) no
          ∙ longest-finds p ds rest m (lacks-less (length ds) p l)
          ((bs, ap (drop 1) e, h.0.2), λ n more k. h.1 n more (d ∷ k.0, ap (λ t. d ∷ t) k.1, k.2))
    ] h.0.1

pub step-floats : (p : List Sign) (n m c : ℕ) (rest : List ℕ) → has_front n p ≡ true → star_at n p ≡ false → IsLongestEnd p m (front n p ++ c ∷ [])
    → list_any (is_match p) (ends_of (front m p ++ rest)) ≡ list_any (is_match p) (ends_of (front n p ++ c ∷ rest))
step-floats p n m c rest h s longest =
    let k : length (front n p ++ c ∷ []) ≡ suc n = let a = length-append (front n p) (c ∷ []) in let b = length-front n p h in omega (arith, a, b) in
    sym (
    ap (λ t. list_any (is_match p) (ends_of t)) (sym (append_assoc (front n p) (c ∷ []) rest))
    ∙ longest-finds p (front n p ++ c ∷ []) rest m (ap (λ j. lacks_star j p) k ∙ lacks-more n p h s) longest
    )

pub step-fits : (p : List Sign) (n c : ℕ) (rest : List ℕ) → has_front n p ≡ true → has_at n c p ≡ true → is_match p (front (suc n) p ++ rest) ≡ is_match p (front n p ++ c ∷ rest)
step-fits p n c rest h at = ap (λ f. is_match p (f ++ rest)) (front-more n c p h at).0 ∙ ap (is_match p) (append_assoc (front n p) (c ∷ []) rest)

pub same-and : (d : ℕ) (b : Bool) → (d == d && b) ≡ b
same-and d b = ap (λ t. t && b) (same d)

other-turned : (b c : ℕ) → (b == c) ≡ false → (c == b) ≡ false
other-turned b c f = elim (c == b) as (λ s. (c == b) ≡ s → s ≡ false) [ true ↦ λ t. absurd (eqb-false b c f (sym (eqb-true c b t))) | false ↦ λ _. refl ] refl

pub step-fails : (p : List Sign) (n c : ℕ) (rest : List ℕ) → has_front n p ≡ true → star_at n p ≡ false → has_at n c p ≡ false → is_match p (front n p ++ c ∷ rest) ≡ false
step-fails [] zero c rest h s at = refl
step-fails (None ∷ ps) zero c rest h s at = absurd cc
step-fails (Some d ∷ ps) zero c rest h s at = ap (λ b. b && is_match ps rest) at
step-fails [] (suc n) c rest h s at = absurd cc
step-fails (None ∷ ps) (suc n) c rest h s at = absurd cc
step-fails (Some d ∷ ps) (suc n) c rest h s at = same-and d (is_match ps (front n ps ++ c ∷ rest)) ∙ step-fails ps n c rest h s at

pub pass-fixed : (p : List Sign) (n : ℕ) (rest : List ℕ) → has_front n p ≡ true → star_at n p ≡ true → is_match p (front n p ++ rest) ≡ list_any (is_match (drop (suc n) p)) (ends_of rest)
pass-fixed [] n rest h s = absurd cc
pass-fixed (None ∷ ps) zero rest h s = refl
pass-fixed (Some d ∷ ps) zero rest h s = absurd cc
pass-fixed (None ∷ ps) (suc n) rest h s = absurd cc
pass-fixed (Some d ∷ ps) (suc n) rest h s = same-and d (is_match ps (front n ps ++ rest)) ∙ pass-fixed ps n rest h s

passed : (p : List Sign) (n : ℕ) (e : List ℕ) → has_front n p ≡ true → star_at n p ≡ true → is_match p e ≡ true → list_any (is_match (drop (suc n) p)) (ends_of (drop n e)) ≡ true
passed [] n e h s k = absurd cc
passed (None ∷ ps) zero e h s k = k
passed (Some c ∷ ps) zero e h s k = absurd cc
passed (None ∷ ps) (suc n) e h s k = absurd cc
passed (Some c ∷ ps) (suc n) [] h s k = absurd cc
passed (Some c ∷ ps) (suc n) (d ∷ ds) h s k = passed ps n ds h s (second_of (c == d) (is_match ps ds) k)

drop-front : (n : ℕ) (p : List Sign) (rest : List ℕ) → has_front n p ≡ true → drop n (front n p ++ rest) ≡ rest
drop-front zero p rest h = refl
drop-front (suc n) [] rest h = absurd cc
drop-front (suc n) (None ∷ ps) rest h = absurd cc
drop-front (suc n) (Some c ∷ ps) rest h = drop-front n ps rest h

pub pass-floats : (p : List Sign) (n : ℕ) (rest : List ℕ) → has_front n p ≡ true → star_at n p ≡ true
    → list_any (is_match p) (ends_of (front n p ++ rest)) ≡ list_any (is_match (drop (suc n) p)) (ends_of rest)
pass-floats p n rest h s =
    both_ways (list_any (is_match p) (ends_of (front n p ++ rest))) (list_any (is_match (drop (suc n) p)) (ends_of rest))
    (λ k. ap (λ t. list_any (is_match (drop (suc n) p)) (ends_of t)) (sym (drop-front n p rest h))
    ∙ later (is_match p) (is_match (drop (suc n) p)) n (λ e m. passed p n e h s m) (front n p ++ rest) k)
    (λ k. whole_end (is_match p) (front n p ++ rest) (pass-fixed p n rest h s ∙ k))

pub anything : (x : List ℕ) → list_any (is_match []) (ends_of x) ≡ true
anything [] = refl
anything (d ∷ ds) = anything ds

-- ---- a search, by its parts

-- a step of a search, by whether its piece may stand further on
pub passed-star : (p : List Sign) (n : ℕ) (floats : Bool) (rest : List ℕ) → has_front n p ≡ true → star_at n p ≡ true
    → list_any (is_match (drop (n + 1) p)) (ends_of rest) ≡ finds (record { signs = p; came = n; floats = floats }) rest
passed-star p n floats rest h s =
    let e : n + 1 ≡ suc n = omega arith in
    ap (λ j. list_any (is_match (drop j p)) (ends_of rest)) e
    ∙ elim floats as (λ b. list_any (is_match (drop (suc n) p)) (ends_of rest) ≡ finds (record { signs = p; came = n; floats = b }) rest) [
      | true ↦ sym (pass-floats p n rest h s)
      | false ↦ sym (pass-fixed p n rest h s)
    ]

pub turned-nothing : (p : List Sign) (n : ℕ) (floats : Bool) (text : List ℕ) → floats ≡ true → length p ≡ 0 → finds (record { signs = p; came = n; floats = floats }) text ≡ true
turned-nothing p n false text t e = cc t
turned-nothing [] n true text t e = anything (front n [] ++ text)
turned-nothing (s ∷ ps) n true text t e = absurd (omega (arith, e))

pub turned-floats : (p : List Sign) (n m c : ℕ) (floats : Bool) (rest : List ℕ) → floats ≡ true → has_front n p ≡ true → star_at n p ≡ false → IsLongestEnd p m (front n p ++ c ∷ [])
    → finds (record { signs = p; came = m; floats = floats }) rest ≡ finds (record { signs = p; came = n; floats = floats }) (c ∷ rest)
turned-floats p n m c true rest t h s longest = step-floats p n m c rest h s longest
turned-floats p n m c false rest t h s longest = cc t

pub turned-fits : (p : List Sign) (n c : ℕ) (floats : Bool) (rest : List ℕ) → floats ≡ false → has_front n p ≡ true → has_at n c p ≡ true
    → finds (record { signs = p; came = n + 1; floats = floats }) rest ≡ finds (record { signs = p; came = n; floats = floats }) (c ∷ rest)
turned-fits p n c true rest f h at = cc f
turned-fits p n c false rest f h at = let e : n + 1 ≡ suc n = omega arith in ap (λ j. is_match p (front j p ++ rest)) e ∙ step-fits p n c rest h at

pub turned-fails : (p : List Sign) (n c : ℕ) (floats : Bool) (rest : List ℕ) → floats ≡ false → has_front n p ≡ true → star_at n p ≡ false → has_at n c p ≡ false
    → finds (record { signs = p; came = n; floats = floats }) (c ∷ rest) ≡ false
turned-fails p n c true rest f h s at = cc f
turned-fails p n c false rest f h s at = step-fails p n c rest h s at

pub front-next : (p : List Sign) (n c : ℕ) → has_front n p ≡ true → has_at n c p ≡ true → has_front (n + 1) p ≡ true
front-next p n c h at = let e : suc n ≡ n + 1 = omega arith in subst (λ j. has_front j p ≡ true) e (front-more n c p h at).1

pub came-longest : (p : List Sign) (n m c : ℕ) → has_front n p ≡ true → ((text : List ℕ) → IsLongestEnd p n text → IsLongestEnd p m (text ++ c ∷ [])) → IsLongestEnd p m (front n p ++ c ∷ [])
came-longest p n m c h each = each (front n p) (self-longest p n h)

-- ---- where a text ends

whole : (p : List Sign) → has_front (length p) p ≡ true → is_match p (front (length p) p) ≡ true
whole [] h = refl
whole (None ∷ ps) h = absurd cc
whole (Some c ∷ ps) h = same-and c (is_match ps (front (length ps) ps)) ∙ whole ps h

and-false : (a b : Bool) → b ≡ false → (a && b) ≡ false
and-false true b h = h
and-false false b h = refl

short : (p : List Sign) (n : ℕ) (x : List ℕ) → has_front n p ≡ true → star_at n p ≡ false → n < length p → length x ≤ n → is_match p x ≡ false
short [] n x h s more less = absurd (omega (arith, more))
short (None ∷ ps) zero x h s more less = absurd cc
short (Some c ∷ ps) zero [] h s more less = refl
short (Some c ∷ ps) zero (d ∷ ds) h s more less = absurd (omega (arith, less))
short (None ∷ ps) (suc n) x h s more less = absurd cc
short (Some c ∷ ps) (suc n) [] h s more less = refl
short (Some c ∷ ps) (suc n) (d ∷ ds) h s more less = and-false (c == d) (is_match ps ds) (short ps n ds h s (omega (arith, more)) (omega (arith, less)))

short-ends : (p : List Sign) (n : ℕ) (x : List ℕ) → has_front n p ≡ true → star_at n p ≡ false → n < length p → length x ≤ n → list_any (is_match p) (ends_of x) ≡ false
short-ends p n [] h s more less = ap (λ b. b || false) (short p n [] h s more less)
short-ends p n (d ∷ ds) h s more less = false-or (is_match p (d ∷ ds)) (list_any (is_match p) (ends_of ds)) (short p n (d ∷ ds) h s more less) ∙ short-ends p n ds h s more (omega (arith, less))

module _ (p : List Sign) (n : ℕ) (h : has_front n p ≡ true) (s : star_at n p ≡ false) where
  less-than : (n == length p) ≡ false → n < length p
  less-than f = let within = front-within n p h in elim (cases_lt n (length p)) [ inl l ↦ l | inr g ↦ let e : n ≡ length p = omega (arith, within, g) in absurd (eqb-false n (length p) f e) ]

  at-all : (n == length p) ≡ true → is_match p (front n p ++ []) ≡ true
  at-all t =
      let e = eqb-true n (length p) t in
      ap (is_match p) (append-nil (front n p)) ∙ ap (λ j. is_match p (front j p)) e ∙ whole p (subst (λ j. has_front j p ≡ true) e h)

  no-more : length (front n p ++ []) ≤ n
  no-more = let k = ap length (append-nil (front n p)) in let l = length-front n p h in omega (arith, k, l)

  pub end-fixed : (n == length p) ≡ is_match p (front n p ++ [])
  end-fixed = elim (n == length p) as (λ b. (n == length p) ≡ b → b ≡ is_match p (front n p ++ [])) [
    | true ↦ λ t. sym (at-all t)
    | false ↦ λ f. sym (short p n (front n p ++ []) h s (less-than f) no-more)
  ] refl

  pub end-floats : (n == length p) ≡ list_any (is_match p) (ends_of (front n p ++ []))
  end-floats = elim (n == length p) as (λ b. (n == length p) ≡ b → b ≡ list_any (is_match p) (ends_of (front n p ++ []))) [
    | true ↦ λ t. sym (whole_end (is_match p) (front n p ++ []) (at-all t))
    | false ↦ λ f. sym (short-ends p n (front n p ++ []) h s (less-than f) no-more)
  ] refl

pub ended : (p : List Sign) (n : ℕ) (floats : Bool) → has_front n p ≡ true → star_at n p ≡ false → (n == length p) ≡ finds (record { signs = p; came = n; floats = floats }) []
ended p n true h s = end-floats p n h s
ended p n false h s = end-fixed p n h s
