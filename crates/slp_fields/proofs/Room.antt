-- Room for the parts of a list, one after the other.
use Rattle.std.proofs.Common.{◌≡◌, ℕ, suc, zero, ◌+◌, ◌≤◌, ◌<◌, List, [], ◌∷◌, ◌++◌, length, take, get_or, sym, ap, ◌∙◌, append-nil, arith}
use Rattle.std.specs.List.{flat_map}
use Rattle.std.proofs.lemmas.List.{length-append, take_more}
use Rattle.std.proofs.lemmas.List.Concat.{flat_map-append}

-- the parts in front of a place, and the one at it, are no more than all
at_place : {A : Type 0} (f : A → List ℕ) (i : ℕ) (xs : List A) (other : A) → i < length xs → length (flat_map f (take i xs)) + length (f (get_or xs i other)) ≤ length (flat_map f xs)
at_place f i [] other there = absurd (omega arith)
at_place f zero (x ∷ xs) other there = omega (arith, length-append (f x) (flat_map f xs))
at_place f (suc i) (x ∷ xs) other there =
    let h = at_place f i xs other (omega arith) in
    omega (arith, h, length-append (f x) (flat_map f (take i xs)), length-append (f x) (flat_map f xs))

pub next_fits : {A : Type 0} (f : A → List ℕ) (i : ℕ) (xs : List A) (x : A) → x ≡ get_or xs i x → i < length xs → length (flat_map f (take i xs)) + length (f x) ≤ length (flat_map f xs)
next_fits f i xs x is there =
    let same : length (f x) ≡ length (f (get_or xs i x)) = ap (λ y. length (f y)) is in
    let h = at_place f i xs x there in
    omega (arith, same, h)

-- one part more
pub next_part : {A : Type 0} (f : A → List ℕ) (i : ℕ) (xs : List A) (x : A) → x ≡ get_or xs i x → i < length xs → flat_map f (take (i + 1) xs) ≡ flat_map f (take i xs) ++ f x
next_part f i xs x is there =
    ap (flat_map f) (take_more xs i x there ∙ ap (λ y. take i xs ++ y ∷ []) (sym is))
    ∙ flat_map-append f (take i xs) (x ∷ []) ∙ ap (λ t. flat_map f (take i xs) ++ t) (append-nil (f x))
