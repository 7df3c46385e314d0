-- A part matches an end of a tag: what stands further on, and where all of it is a match.
use Rattle.std.proofs.Common.{◌≡◌, ℕ, suc, zero, ◌<◌, Bool, true, false, ◌||◌, ◌&&◌, List, [], ◌∷◌, length, drop, take, ◌-◌, refl, sym, ap, ◌∙◌, arith, length-drop, map, inl, inr}
use Rattle.std.specs.Prelude.{◌⊎◌}
use Rattle.std.specs.List.{list_any}
use Rattle.std.proofs.Math.Seq.{take-length}
use Rattle.slp_tags.specs.Tags.{Part, ends_of, is_match, selects}

pub second_of : (a b : Bool) → (a && b) ≡ true → b ≡ true
second_of true b h = h
second_of false b h = cc

or_left : (a b : Bool) → a ≡ true → (a || b) ≡ true
or_left true b h = refl
or_left false b h = cc

or_right : (a b : Bool) → b ≡ true → (a || b) ≡ true
or_right true b h = refl
or_right false b h = h

or_cases : (a b : Bool) → (a || b) ≡ true → (a ≡ true) ⊎ (b ≡ true)
or_cases true b h = inl refl
or_cases false b h = inr h

pub both_ways : (a b : Bool) → (a ≡ true → b ≡ true) → (b ≡ true → a ≡ true) → a ≡ b
both_ways true b to from = sym (to refl)
both_ways false true to from = from refl
both_ways false false to from = refl

-- an end of a tag that ends with it
shorter : (q : List ℕ → Bool) (n : ℕ) (xs : List ℕ) → list_any q (ends_of (drop (suc n) xs)) ≡ true → list_any q (ends_of (drop n xs)) ≡ true
shorter q zero [] h = h
shorter q (suc n) [] h = h
shorter q zero (x ∷ xs) h = or_right (q (x ∷ xs)) (list_any q (ends_of xs)) h
shorter q (suc n) (x ∷ xs) h = shorter q n xs h

longer_end : (q : List ℕ → Bool) (n : ℕ) (b : ℕ) (bs : List ℕ) → list_any q (ends_of (drop n bs)) ≡ true → list_any q (ends_of (drop n (b ∷ bs))) ≡ true
longer_end q n b bs h = shorter q n (b ∷ bs) h

pub whole_end : (q : List ℕ → Bool) (t : List ℕ) → q t ≡ true → list_any q (ends_of t) ≡ true
whole_end q [] h = or_left (q []) false h
whole_end q (b ∷ bs) h = or_left (q (b ∷ bs)) (list_any q (ends_of bs)) h

module _ (p q : List ℕ → Bool) (n : ℕ) (after : (e : List ℕ) → p e ≡ true → list_any q (ends_of (drop n e)) ≡ true) where
  pub later : (t : List ℕ) → list_any p (ends_of t) ≡ true → list_any q (ends_of (drop n t)) ≡ true
  later [] h = elim (or_cases (p []) false h) [ inl is ↦ after [] is | inr nothing ↦ cc nothing ]
  later (b ∷ bs) h = elim (or_cases (p (b ∷ bs)) (list_any p (ends_of bs)) h) [
    | inl is ↦ after (b ∷ bs) is
    | inr rest ↦ longer_end q n b bs (later bs rest)
  ]

pub any-map : {A B : Type 0} (f : A → B) (q : B → Bool) (xs : List A) → list_any q (map f xs) ≡ list_any (λ x. q (f x)) xs
any-map f q [] = refl
any-map f q (x ∷ xs) = ap (λ b. q (f x) || b) (any-map f q xs)

pub selects-any : {A : Type 0} (f : A → Part) (xs : List A) (tag : List ℕ) → 0 < length xs → selects (map f xs) tag ≡ list_any (λ x. is_match (f x) tag) xs
selects-any f [] tag some = absurd (omega (arith, some))
selects-any f (x ∷ xs) tag some = any-map f (λ part. is_match part tag) (x ∷ xs)

pub rest_all : {A : Type 0} (k : ℕ) (xs : List A) → take (length xs - k) (drop k xs) ≡ drop k xs
rest_all k xs = ap (λ m. take m (drop k xs)) (sym (length-drop k xs)) ∙ take-length (drop k xs)
