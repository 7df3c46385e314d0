-- What is said of signs, said of their codes.
use Rattle.std.proofs.Common.{◌≡◌, ℕ, suc, zero, ◌+◌, ◌<◌, ◌-◌, true, false, ◌==◌, List, [], ◌∷◌, ◌++◌, length, length-drop, take, drop, get_or, map, Some, None, refl, sym, ap, subst, ◌∙◌, arith, eqb-true}
use Rattle.std.specs.List.{AllByRecursion}
use Rattle.std.specs.Prelude.{◌≢◌, cond}
use Rattle.slp_tags.specs.SignCodes.{star_code, end_code, sign_in, signs_in, AreCodes}
use Rattle.slp_tags.specs.Searches.{has_at, has_front, star_at}
use Rattle.slp_tags.proofs.Matches.{both_ways, rest_all}
use Rattle.slp_tags.proofs.Searches.{same, front-within, star-within, at-within}

pub length-codes : (codes : List ℕ) → AreCodes codes → length codes ≡ length (signs_in codes) + 1
length-codes [] h = absurd h
length-codes (n ∷ []) h = refl
length-codes (n ∷ m ∷ codes) h = let rest = length-codes (m ∷ codes) h.1 in omega (arith, rest)

not-same : (n c : ℕ) → (n ≡ c → ⊥) → (n == c) ≡ false
not-same n c h = elim (n == c) as (λ b. (n == c) ≡ b → b ≡ false) [ true ↦ λ t. absurd (h (eqb-true n c t)) | false ↦ λ f. refl ] refl

pub code-at : (n c d : ℕ) (codes : List ℕ) → c < end_code → n < length codes → AreCodes codes → (get_or codes n d == c) ≡ has_at n c (signs_in codes)
code-at n c d [] small within h = absurd h
code-at zero c d (x ∷ []) small within h = not-same x c (λ e. absurd (omega (arith, e, h, small)))
code-at (suc n) c d (x ∷ []) small within h = absurd (omega (arith, within))
code-at zero c d (x ∷ y ∷ codes) small within h =
    elim (x == star_code) as (λ b. (x == star_code) ≡ b → (x == c) ≡ has_at zero c (cond b None (Some x) ∷ signs_in (y ∷ codes))) [
      | true ↦ λ t. let star = eqb-true x star_code t in not-same x c (λ e. absurd (omega (arith, e, star, small)))
      | false ↦ λ f. refl
    ] refl
code-at (suc n) c d (x ∷ y ∷ codes) small within h = code-at n c d (y ∷ codes) small (omega (arith, within)) h.1

pub code-star : (n d : ℕ) (codes : List ℕ) → n < length codes → AreCodes codes → (get_or codes n d == star_code) ≡ star_at n (signs_in codes)
code-star n d [] within h = absurd h
code-star zero d (x ∷ []) within h = not-same x star_code (λ e. absurd (omega (arith, e, h)))
code-star (suc n) d (x ∷ []) within h = absurd (omega (arith, within))
code-star zero d (x ∷ y ∷ codes) within h =
    elim (x == star_code) as (λ b. (x == star_code) ≡ b → b ≡ star_at zero (cond b None (Some x) ∷ signs_in (y ∷ codes))) [
      | true ↦ λ t. refl
      | false ↦ λ f. refl
    ] refl
code-star (suc n) d (x ∷ y ∷ codes) within h = code-star n d (y ∷ codes) (omega (arith, within)) h.1

pub drop-codes : (n : ℕ) (codes : List ℕ) → n < length codes → AreCodes codes → (signs_in (drop n codes) ≡ drop n (signs_in codes)) × AreCodes (drop n codes)
drop-codes n [] within h = absurd h
drop-codes zero (x ∷ codes) within h = (refl, h)
drop-codes (suc n) (x ∷ []) within h = absurd (omega (arith, within))
drop-codes (suc n) (x ∷ y ∷ codes) within h = drop-codes n (y ∷ codes) (omega (arith, within)) h.1

-- a code that is no star, before the end
pub code-below : (n d : ℕ) (codes : List ℕ) → suc n < length codes → AreCodes codes → get_or codes n d ≢ end_code
code-below n d [] within h = absurd h
code-below n d (x ∷ []) within h = absurd (omega (arith, within))
code-below zero d (x ∷ y ∷ codes) within h = h.0
code-below (suc n) d (x ∷ y ∷ codes) within h = code-below n d (y ∷ codes) (omega (arith, within)) h.1

-- codes, and the end behind them
pub ended-codes : (codes : List ℕ) → AllByRecursion (λ n. n ≢ end_code) codes → (signs_in (codes ++ end_code ∷ []) ≡ map sign_in codes) × AreCodes (codes ++ end_code ∷ [])
ended-codes [] h = (refl, refl)
ended-codes (x ∷ []) h = (refl, (h.0, refl))
ended-codes (x ∷ y ∷ codes) h = let rest = ended-codes (y ∷ codes) h.1 in (ap (λ signs. sign_in x ∷ signs) rest.0, (h.0, rest.1))

-- the codes from a place on
pub cut-codes : (n : ℕ) (codes : List ℕ) → n < length codes → AreCodes codes → (signs_in (take (length codes - n) (drop n codes)) ≡ drop n (signs_in codes)) × AreCodes (take (length codes - n) (drop n codes))
cut-codes n codes within h = subst (λ cs. (signs_in cs ≡ drop n (signs_in codes)) × AreCodes cs) (sym (rest_all n codes)) (drop-codes n codes within h)

pub own-code : (n : ℕ) (codes : List ℕ) (c : ℕ) → c ≡ get_or codes n 0 → c < end_code → n < length codes → AreCodes codes → has_at n c (signs_in codes) ≡ true
own-code n codes c is small within h = sym (code-at n c 0 codes small within h) ∙ ap (λ d. d == c) (sym is) ∙ same c

pub star-there : (n : ℕ) (codes : List ℕ) (c : ℕ) → c ≡ get_or codes n 0 → c ≡ star_code → n < length codes → AreCodes codes → star_at n (signs_in codes) ≡ true
star-there n codes c is star within h = sym (code-star n 0 codes within h) ∙ ap (λ d. d == star_code) (sym is ∙ star) ∙ same star_code

pub small-code : (n : ℕ) (codes : List ℕ) (c : ℕ) → c ≡ get_or codes n 0 → c < 4294967296 → (c ≡ star_code → ⊥) → suc n < length codes → AreCodes codes → c < end_code
small-code n codes c is small other within h = let not = code-below n 0 codes within h in omega (arith, small, other, (λ (e : c ≡ end_code). not (sym is ∙ e)))

pub came-within : (n : ℕ) (codes : List ℕ) → AreCodes codes → has_front n (signs_in codes) ≡ true → n < length codes
came-within n codes h front-is = let within = front-within n (signs_in codes) front-is in let long = length-codes codes h in omega (arith, within, long)

pub star-inside : (n : ℕ) (codes : List ℕ) → AreCodes codes → star_at n (signs_in codes) ≡ true → n + 1 < length codes
star-inside n codes h star = let within = star-within n (signs_in codes) star in let long = length-codes codes h in omega (arith, within, long)

pub at-inside : (n c : ℕ) (codes : List ℕ) → AreCodes codes → has_at n c (signs_in codes) ≡ true → n + 1 < length codes
at-inside n c codes h at = let within = at-within n c (signs_in codes) at in let long = length-codes codes h in omega (arith, within, long)

-- the end comes next where all signs came
pub all-came : (n : ℕ) (codes : List ℕ) → AreCodes codes → (n + 1 == length codes) ≡ (n == length (signs_in codes))
all-came n codes h =
    let long = length-codes codes h in
    both_ways (n + 1 == length codes) (n == length (signs_in codes))
    (λ t. let e = eqb-true (n + 1) (length codes) t in let k : n ≡ length (signs_in codes) = omega (arith, e, long) in ap (λ m. n == m) (sym k) ∙ same n)
    (λ t. let e = eqb-true n (length (signs_in codes)) t in let k : n + 1 ≡ length codes = omega (arith, e, long) in ap (λ m. n + 1 == m) (sym k) ∙ same (n + 1))

pub no-signs : (codes : List ℕ) → AreCodes codes → length codes ≡ 1 → length (signs_in codes) ≡ 0
no-signs codes h one = let long = length-codes codes h in omega (arith, long, one)

pub fewer-signs : (n : ℕ) (codes rest : List ℕ) → rest ≡ drop (n + 1) codes → n + 1 < length codes → AreCodes codes → length (signs_in rest) < length (signs_in codes)
fewer-signs n codes rest is within h =
    let all = length-codes codes h in
    let left = length-codes rest (subst AreCodes (sym is) (drop-codes (n + 1) codes within h).1) in
    let cut = ap length is in
    let dropped = length-drop (n + 1) codes in
    omega (arith, all, left, cut, dropped, within)
