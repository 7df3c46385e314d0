-- What is done second after second, one part after the other.
use Rattle.std.proofs.Common.{◌≡◌, ◌<◌, ◌≤◌, ℕ, ◌+◌, ◌-◌, suc, Bool, true, false, List, [], ◌∷◌, ◌++◌, refl, subst, inl, inr, arith}
use Rattle.agent_watch.specs.Watching.{Deed, Deeds, Does, Looked, Napped, Sleeps}

pub does_on : {W : Type 0} (may : Deeds W) (a : W) (ds es : List Deed) (b c : W) → Does may a ds b → Does may b es c → Does may a (ds ++ es) c
does_on may a [] es b c first next = subst (λ w. Does may w es c) first next
does_on may a (d ∷ ds) es b c (between, one, rest) next = (between, one, does_on may between ds es b c rest next)

-- one of the naps that are left
one_left : (i : ℕ) → i < 5 → suc (5 - (i + 1)) ≡ 5 - i
one_left i lt = omega (arith, lt)

module _ (i : ℕ) where
  pub over : (lt : i < 5) → Sleeps (5 - i) false (Looked true ∷ [])
  over lt = subst (λ n. Sleeps n false (Looked true ∷ [])) (one_left i lt) (inl (refl, refl))

  pub nap_more : (lt : i < 5) (awake : Bool) (ds : List Deed) → Sleeps (5 - (i + 1)) awake ds → Sleeps (5 - i) awake (Looked false ∷ (Napped 200 ∷ ds))
  nap_more lt awake ds rest = subst (λ n. Sleeps n awake (Looked false ∷ (Napped 200 ∷ ds))) (one_left i lt) (inr (ds, refl, rest))

  pub slept : 5 ≤ i → Sleeps (5 - i) true []
  slept past = let none : 0 ≡ 5 - i = omega (arith, past) in subst (λ n. Sleeps n true []) none (refl, refl)
