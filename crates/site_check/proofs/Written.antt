-- What is written of a list, element by element.
use Rattle.std.proofs.Common.{◌≡◌, ◌+◌, ◌++◌, [], ◌∷◌, ◌<◌, ◌≤◌, ℕ, suc, Bool, true, false, List, Option, Some, None, Result, Ok, Err, OnOk, length, zero-add, map, take, drop, get_or, add-one, sym, ap, ◌∙◌, arith}
use Rattle.std.specs.Prelude.{find, flat_map}
use Rattle.std.specs.List.{enumerate_from}
use Rattle.std.specs.Io.KnownBytes.{Appends}
use Rattle.std.proofs.KnownBytes.{Appends-trans}
use Rattle.std.proofs.Math.Seq.{take-suc, drop-cons}
use Rattle.std.proofs.lemmas.List.{drop_all, flat_map_more, get_or-map, length-map, take_all}
use Rattle.std.proofs.lemmas.List.FromFn.{length-enumerate_from, get_or-enumerate_from}

-- what is written of one element more
pub flat_map-taken : {X A : Type 0} (f : X → List A) (xs : List X) (i : ℕ) (d : X) → i < length xs → flat_map f (take i xs) ++ f (get_or xs i d) ≡ flat_map f (take (i + 1) xs)
flat_map-taken f xs i d within =
    flat_map_more f [] (take i xs) (get_or xs i d) ∙ ap (flat_map f) (sym (take-suc xs i d within)) ∙ ap (λ (j : ℕ). flat_map f (take j xs)) (sym (add-one i))

-- the same of an element that is found there
pub flat_map-found : {X A : Type 0} (f : X → List A) (xs : List X) (i : ℕ) (x : X) → i < length xs → x ≡ get_or xs i x → flat_map f (take i xs) ++ f x ≡ flat_map f (take (i + 1) xs)
flat_map-found f xs i x within is = ap (λ y. flat_map f (take i xs) ++ f y) is ∙ flat_map-taken f xs i x within

-- an element that is found, with its number
numbered_at : {X : Type 0} (n : ℕ) (xs : List X) (i : ℕ) (x : X) → i < length xs → x ≡ get_or xs i x → (n + i, x) ≡ get_or (enumerate_from n xs) i (n + i, x)
numbered_at n xs i x within is = ap (λ y. (n + i, y)) is ∙ sym (get_or-enumerate_from n xs i (n + i, x) within)

-- the same of an element with its index
pub flat_map-indexed : {X A : Type 0} (f : ℕ × X → List A) (xs : List X) (i : ℕ) (x : X) → i < length xs → x ≡ get_or xs i x → flat_map f (take i (enumerate_from 0 xs)) ++ f (i, x) ≡ flat_map f (take (i + 1) (enumerate_from 0 xs))
flat_map-indexed f xs i x within is =
    flat_map-found f (enumerate_from 0 xs) i (i, x) (rw (length-enumerate_from 0 xs) within)
    (ap (λ y. (i, y)) is ∙ sym (get_or-enumerate_from 0 xs i (i, x) within ∙ ap (λ (j : ℕ). (j, get_or xs i x)) (zero-add i)))

-- past the last there is nothing more
pub indexed_all : {X : Type 0} (xs : List X) (i : ℕ) → length xs ≤ i → take i (enumerate_from 0 xs) ≡ enumerate_from 0 xs
indexed_all xs i past = take_all i (enumerate_from 0 xs) (omega (arith, length-enumerate_from 0 xs))

-- an element that is found stands before the rest
pub numbered_rest : {X : Type 0} (n : ℕ) (xs : List X) (i : ℕ) (x : X) → i < length xs → x ≡ get_or xs i x → drop i (enumerate_from n xs) ≡ (n + i, x) ∷ drop (i + 1) (enumerate_from n xs)
numbered_rest n xs i x within is =
    drop-cons (enumerate_from n xs) i (n + i, x) (rw (length-enumerate_from n xs) within)
    ∙ ap (λ y. y ∷ drop (suc i) (enumerate_from n xs)) (sym (numbered_at n xs i x within is))
    ∙ ap (λ (j : ℕ). (n + i, x) ∷ drop j (enumerate_from n xs)) (sym (add-one i))

-- the first that passes is the one there, or stands later
pub found_at : {X : Type 0} (p : X → Bool) (n : ℕ) (xs : List X) (i : ℕ) (x : X) → i < length xs → x ≡ get_or xs i x → p x ≡ true → find (λ (y : ℕ × X). p y.1) (drop i (enumerate_from n xs)) ≡ Some (n + i, x)
found_at p n xs i x within is passes = rw (numbered_rest n xs i x within is, passes)

pub found_later : {X : Type 0} (p : X → Bool) (n : ℕ) (xs : List X) (i : ℕ) (x : X) → i < length xs → x ≡ get_or xs i x → p x ≡ false → find (λ (y : ℕ × X). p y.1) (drop i (enumerate_from n xs)) ≡ find (λ (y : ℕ × X). p y.1) (drop (i + 1) (enumerate_from n xs))
found_later p n xs i x within is fails = rw (numbered_rest n xs i x within is, fails)

pub found_nowhere : {X : Type 0} (p : X → Bool) (n : ℕ) (xs : List X) (i : ℕ) → length xs ≤ i → find (λ (y : ℕ × X). p y.1) (drop i (enumerate_from n xs)) ≡ None
found_nowhere p n xs i past = rw (drop_all i (enumerate_from n xs) (omega (arith, length-enumerate_from n xs)))

-- what is written after what was written before
pub written_after : {E : Type 0} (r : Result (Unit {0}) E) (old mid new : Option (List ℕ)) (before after : List ℕ) → Appends old mid before → OnOk r (Appends mid new after) → OnOk r (Appends old new (before ++ after))
written_after (Ok x) old mid new before after h k = Appends-trans old mid new before after h k
written_after (Err e) old mid new before after h k = tt

-- ---- an element of a list, seen as another

pub mapped_within : {X Y : Type 0} (f : X → Y) (xs : List X) (i : ℕ) → i < length xs → i < length (map f xs)
mapped_within f xs i within = rw (length-map xs f) within

pub mapped_past : {X Y : Type 0} (f : X → Y) (xs : List X) (i : ℕ) → length xs ≤ i → length (map f xs) ≤ i
mapped_past f xs i past = rw (length-map xs f) past

pub mapped_at : {X Y : Type 0} (f : X → Y) (xs : List X) (i : ℕ) (x : X) → i < length xs → x ≡ get_or xs i x → f x ≡ get_or (map f xs) i (f x)
mapped_at f xs i x within is = ap f is ∙ sym (get_or-map f xs i x (f x) within)

-- ---- the elements before an index

pub taken_more : {X : Type 0} (xs : List X) (i : ℕ) (x : X) → i < length xs → x ≡ get_or xs i x → take i xs ++ x ∷ [] ≡ take (i + 1) xs
taken_more xs i x within is =
    ap (λ y. take i xs ++ y ∷ []) is ∙ sym (take-suc xs i x within) ∙ ap (λ (j : ℕ). take j xs) (sym (add-one i))
