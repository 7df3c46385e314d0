-- Lines are split at the first that passes a test.
use Rattle.std.proofs.Common.{◌≡◌, ℕ, zero, suc, ◌<◌, ◌≤◌, Bool, true, false, cond, List, [], ◌∷◌, take, drop, length, get_or, refl, sym, ap, ◌∙◌, arith}
use Rattle.std.specs.Prelude.{not}
use denote.Ref.{Bor}
use Rattle.slp_text.specs.Words.{is_blank}
use Rattle.template_files.specs.Reading.{after_blanks, from_first, to_first}
use Rattle.template_files.specs.Stops.{texts_of}

abbrev Lent : Type 0
Lent = Bor (List ℕ)

-- none of the first n passes
abbrev pub NonePasses : (List ℕ → Bool) → List Lent → ℕ → Type 0
NonePasses test xs n = (k : ℕ) (d : Lent) → k < n → test (get_or xs k d).now ≡ false

module _ (test : List ℕ → Bool) where
  pub to_first-found : (xs : List Lent) (i : ℕ) (x : Lent) → i < length xs → test (get_or xs i x).now ≡ true → NonePasses test xs i → texts_of (take i xs) ≡ to_first test (texts_of xs)
  to_first-found [] i x within passes h = absurd (omega (arith, within))
  to_first-found (y ∷ xs) zero x within passes h = sym (ap (λ b. cond b [] (y.now ∷ to_first test (texts_of xs))) passes)
  to_first-found (y ∷ xs) (suc i) x within passes h =
      ap (λ ls. y.now ∷ ls) (to_first-found xs i x (omega (arith, within)) passes (λ k d below. h (suc k) d (omega (arith, below))))
      ∙ sym (ap (λ b. cond b [] (y.now ∷ to_first test (texts_of xs))) (h 0 x (omega arith)))

  pub from_first-found : (xs : List Lent) (i : ℕ) (x : Lent) → i < length xs → test (get_or xs i x).now ≡ true → NonePasses test xs i → texts_of (drop i xs) ≡ from_first test (texts_of xs)
  from_first-found [] i x within passes h = absurd (omega (arith, within))
  from_first-found (y ∷ xs) zero x within passes h = sym (ap (λ b. cond b (texts_of (y ∷ xs)) (from_first test (texts_of xs))) passes)
  from_first-found (y ∷ xs) (suc i) x within passes h =
      from_first-found xs i x (omega (arith, within)) passes (λ k d below. h (suc k) d (omega (arith, below)))
      ∙ sym (ap (λ b. cond b (texts_of (y ∷ xs)) (from_first test (texts_of xs))) (h 0 y (omega arith)))

  pub to_first-all : (xs : List Lent) → NonePasses test xs (length xs) → texts_of xs ≡ to_first test (texts_of xs)
  to_first-all [] h = refl
  to_first-all (y ∷ xs) h =
      ap (λ ls. y.now ∷ ls) (to_first-all xs (λ k d below. h (suc k) d (omega (arith, below))))
      ∙ sym (ap (λ b. cond b [] (y.now ∷ to_first test (texts_of xs))) (h 0 y (omega arith)))

  pub from_first-none : (xs : List Lent) → NonePasses test xs (length xs) → [] ≡ from_first test (texts_of xs)
  from_first-none [] h = refl
  from_first-none (y ∷ xs) h =
      from_first-none xs (λ k d below. h (suc k) d (omega (arith, below)))
      ∙ sym (ap (λ b. cond b (texts_of (y ∷ xs)) (from_first test (texts_of xs))) (h 0 y (omega arith)))

abbrev pub is_filled : List ℕ → Bool
is_filled l = not (is_blank l)

turned : {A : Type 0} (b : Bool) (x y : A) → cond (not b) x y ≡ cond b y x
turned true x y = refl
turned false x y = refl

pub blanks-skipped : (ls : List (List ℕ)) → from_first is_filled ls ≡ after_blanks ls
blanks-skipped [] = refl
blanks-skipped (l ∷ ls) = turned (is_blank l) (l ∷ ls) (from_first is_filled ls) ∙ ap (λ r. cond (is_blank l) r (l ∷ ls)) (blanks-skipped ls)

-- none of all passes
pub whole : (test : List ℕ → Bool) (xs : List Lent) (i : ℕ) → length xs ≤ i → NonePasses test xs i → NonePasses test xs (length xs)
whole test xs i all h k d below = h k d (omega arith)
