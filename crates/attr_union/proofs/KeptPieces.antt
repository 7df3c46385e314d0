-- Attributes whose tags a test accepts, one after the other.
use Rattle.std.proofs.Common.{◌≡◌, ℕ, ◌+◌, suc, zero, List, [], ◌∷◌, ◌++◌, map, take, Some, None, refl, sym, ap, subst, ◌∙◌, add-one, arith, Bool}
use Rattle.std.specs.Prelude.{◌≤◌, filter, slice_get, IfSome}
use Rattle.std.specs.FinMap as fin
use Rattle.std.specs.List.{AllByRecursion}
use Rattle.std.proofs.lemmas.List.{take_all}
use Rattle.std.proofs.lemmas.List.Elements.{filter-append}
use Rattle.attr_values.specs.Kinds.{IsValue}
use Rattle.attr_list.specs.Elements.{Element}
use Rattle.attr_list.specs.Lists.{Attributes, values_in}
use Rattle.attr_list.specs.Maps.{elements_in, kept_attributes}
use Rattle.attr_list.specs.Pieces.{IsElement}
use Rattle.attr_list.specs.Texts.{IsAttribute, IsHeld}
use Rattle.attr_list.specs.declared.held.Held.{Held}
use Rattle.attr_list.specs.declared.held.Held.TheVariants.{Keyword, Values}
use Rattle.attr_list.proofs.KeptAttributes.{elements-kept}
use Rattle.attr_list.proofs.PrintedAttributes.{element_of}

one_more : {A : Type 0} (xs : List A) (i : ℕ) (x : A) → slice_get xs i ≡ Some x → take (suc i) xs ≡ take i xs ++ x ∷ []
one_more [] i x is = cc
one_more (y ∷ xs) zero x is = cc
one_more (y ∷ xs) (suc i) x is = ap (λ t. y ∷ t) (one_more xs i x is)

past : {A : Type 0} (xs : List A) (i : ℕ) → slice_get xs i ≡ None → take (suc i) xs ≡ take i xs
past [] zero is = refl
past [] (suc i) is = refl
past (y ∷ xs) zero is = cc
past (y ∷ xs) (suc i) is = ap (λ t. y ∷ t) (past xs i is)

map-one : {A B : Type 0} (f : A → B) (xs : List A) (x : A) → map f (xs ++ x ∷ []) ≡ map f xs ++ f x ∷ []
map-one f [] x = refl
map-one f (y ∷ xs) x = ap (λ ys. f y ∷ ys) (map-one f xs x)

-- the elements of the first so many attributes whose tags a test accepts
abbrev pub kept_of_first : (List ℕ → Bool) → Attributes → ℕ → List Element
kept_of_first p a count = filter (λ e. p e.tag) (map element_of (take count (fin.entries a)))

module _ (p : List ℕ → Bool) (a : Attributes) (i : ℕ) where
  pub first_more : (x : List ℕ × Held) → slice_get (fin.entries a) i ≡ Some x → kept_of_first p a (i + 1) ≡ kept_of_first p a i ++ filter (λ e. p e.tag) (element_of x ∷ [])
  first_more x there =
      ap (λ n. kept_of_first p a n) (add-one i)
      ∙ ap (λ ps. filter (λ e. p e.tag) (map element_of ps)) (one_more (fin.entries a) i x there)
      ∙ ap (filter (λ e. p e.tag)) (map-one element_of (take i (fin.entries a)) x)
      ∙ filter-append (λ e. p e.tag) (map element_of (take i (fin.entries a))) (element_of x ∷ [])

  pub first-none : slice_get (fin.entries a) i ≡ None → kept_of_first p a (i + 1) ≡ kept_of_first p a i
  first-none none = ap (λ n. kept_of_first p a n) (add-one i) ∙ ap (λ ps. filter (λ e. p e.tag) (map element_of ps)) (past (fin.entries a) i none)

-- those of all attributes, once there are no more
pub first-all : (p : List ℕ → Bool) (a : Attributes) (place count : ℕ) → count ≡ fin.len a → count ≤ place → kept_of_first p a place ≡ elements_in (kept_attributes a p)
first-all p a place count is le =
    let every : take place (fin.entries a) ≡ fin.entries a = take_all place (fin.entries a) (let l = fin.len-entries a in omega (arith, is, le, l)) in
    ap (λ ps. filter (λ e. p e.tag) (map element_of ps)) every ∙ sym (elements-kept a p)

-- ---- what stands among them

held-values : (held : Held) → IsHeld held → AllByRecursion IsValue (values_in held)
held-values Keyword h = tt
held-values (Values vs) h = h.1

pub element-at : (ps : List (List ℕ × Held)) (i : ℕ) (x : List ℕ × Held) → AllByRecursion (λ p. IsAttribute p.0 p.1) ps → slice_get ps i ≡ Some x → IsElement (element_of x)
element-at [] i x h is = cc
element-at (p ∷ ps) zero x h is =
    subst (λ o. IfSome o (λ q. IsElement (element_of q))) is (record { tag = record { utf8 = h.0.utf8; is_some = h.0.is_some; is_own_key = h.0.is_own_key }; values = held-values p.1 h.0.holds })
element-at (p ∷ ps) (suc i) x h is = element-at ps i x h.1 is
