-- What the pieces of a pattern still give while it is built.
use Rattle.std.proofs.Common.{◌≡◌, ℕ, suc, ◌+◌, ◌<◌, Bool, true, false, List, [], ◌∷◌, ◌++◌, length, map, get_or, drop, Some, None, refl, sym, ap, ap₂, ◌∙◌, add-one, append-nil}
use Rattle.std.proofs.Math.Seq.{drop-cons}
use Rattle.caseless.specs.Caseless.{default_case_fold}
use Rattle.slp_tags.specs.Tags.{Sign}
use Rattle.text_patterns.specs.Patterns.{pattern_with}
use Rattle.text_patterns.proofs.Building.{more_signs}

pub pattern_with-start : (signs rest : List Sign) → signs ≡ [] → pattern_with false signs rest ≡ pattern_with false [] rest
pattern_with-start signs rest none = ap (λ p. pattern_with false p rest) none

pub folded_pieces : {A : Type 0} (f : A → List ℕ) (xs : List A) → map (λ x. default_case_fold (f x)) xs ≡ map default_case_fold (map f xs)
folded_pieces f [] = refl
folded_pieces f (x ∷ xs) = ap (λ ys. default_case_fold (f x) ∷ ys) (folded_pieces f xs)

pub next_piece : {A : Type 0} (f : A → List ℕ) (xs : List A) (i : ℕ) (x : A) → i < length xs → x ≡ get_or xs i x → map f (drop i xs) ≡ f x ∷ map f (drop (i + 1) xs)
next_piece f xs i x lt is = rw add-one (ap (map f) (drop-cons xs i x lt) ∙ ap (λ y. f y ∷ map f (drop (suc i) xs)) (sym is))

piece-first : (p : List ℕ) (ps : List (List ℕ)) → map Some p ++ more_signs true ps ≡ more_signs false (p ∷ ps)
piece-first p [] = append-nil (map Some p)
piece-first p (q ∷ qs) = refl

-- a first piece
pub piece-one : (begun gap gap₁ : Bool) (signs signs₁ : List Sign) (p : List ℕ) (ps qs : List (List ℕ)) (all : List Sign) → qs ≡ p ∷ ps → begun ≡ false → gap₁ ≡ gap → signs₁ ≡ signs
    → pattern_with gap signs (more_signs begun qs) ≡ all → pattern_with gap₁ signs₁ (map Some p ++ more_signs true ps) ≡ all
piece-one begun gap gap₁ signs signs₁ p ps qs all cut b g s is =
    ap₂ (λ h ss. pattern_with h ss (map Some p ++ more_signs true ps)) g s ∙ ap (pattern_with gap signs) (piece-first p ps ∙ ap₂ more_signs (sym b) (sym cut)) ∙ is

-- another, after a star
pub piece-other : (begun gap gap₁ : Bool) (signs signs₁ : List Sign) (p : List ℕ) (ps qs : List (List ℕ)) (all : List Sign) → qs ≡ p ∷ ps → begun ≡ true
    → ((rest : List Sign) → pattern_with gap₁ signs₁ rest ≡ pattern_with gap signs (None ∷ rest)) → pattern_with gap signs (more_signs begun qs) ≡ all
    → pattern_with gap₁ signs₁ (map Some p ++ more_signs true ps) ≡ all
piece-other begun gap gap₁ signs signs₁ p ps qs all cut b star is =
    star (map Some p ++ more_signs true ps) ∙ ap (pattern_with gap signs) (ap (λ ss. None ∷ ss) (piece-first p ps) ∙ ap₂ more_signs (sym b) (sym cut)) ∙ is
