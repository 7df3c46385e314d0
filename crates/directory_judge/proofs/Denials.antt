-- Who denies first, from a place on, and how long a filtered list is.
use Rattle.std.proofs.Common.{◌≡◌, ℕ, suc, ◌+◌, ◌≤◌, Bool, true, false, cond, List, [], ◌∷◌, Some, drop, length, refl, add-one, arith}
use Rattle.std.specs.Prelude.{find, filter, slice_get}
use Rattle.std.proofs.lemmas.Option.{slice_get_within, get_or_from_slice_get}
use Rattle.std.proofs.Math.Seq.{drop-cons}

-- the first from a place on is what stands there, or comes after it
pub find-drop : {A : Type 0} (p : A → Bool) (xs : List A) (i : ℕ) (x : A) → slice_get xs i ≡ Some x → find p (drop i xs) ≡ cond (p x) (Some x) (find p (drop (i + 1) xs))
find-drop p xs i x h =
    let front : drop i xs ≡ x ∷ drop (suc i) xs = rw (drop-cons xs i x (slice_get_within xs i x h), get_or_from_slice_get xs i x x h) refl in
    rw (front, add-one) refl

-- what stands at a place is the first from there on
pub get-front : {A : Type 0} (xs : List A) (i : ℕ) (x : A) → slice_get xs i ≡ Some x → slice_get (drop i xs) 0 ≡ Some x
get-front xs i x h =
    let front : drop i xs ≡ x ∷ drop (suc i) xs = rw (drop-cons xs i x (slice_get_within xs i x h), get_or_from_slice_get xs i x x h) refl in
    rw front refl

pub length-filter-le : {A : Type 0} (p : A → Bool) (xs : List A) → length (filter p xs) ≤ length xs
length-filter-le p [] = omega arith
length-filter-le p (x ∷ xs) =
    let rest = length-filter-le p xs in
    elim (p x) as (λ b. length (cond b (x ∷ filter p xs) (filter p xs)) ≤ length (x ∷ xs)) [ true ↦ omega (arith, rest) | false ↦ omega (arith, rest) ]
