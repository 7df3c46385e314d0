-- Histories that go on from others.
use Rattle.std.proofs.Common.{◌≡◌, ◌≤◌, true, false, cond, [], ◌∷◌, ◌++◌, length, refl, sym, ap, ◌∙◌, arith}
use Rattle.std.specs.Prelude.{nat_lt}
use Rattle.std.proofs.lemmas.Bool.Decides.{nat_tests}
use Rattle.directory_judge.specs.History.{History, Event}
use Rattle.history_log.specs.Pasts.{IsPast, longer}

pub IsPast-self : (h : History) → IsPast h h
IsPast-self h = ([], refl)

pub IsPast-cons : (c : Event) (g h : History) → IsPast g h → IsPast g (c ∷ h)
IsPast-cons c g h p = (c ∷ p.0, ap (λ (x : History). c ∷ x) p.1)

appended : (a b c : History) → (a ++ b) ++ c ≡ a ++ (b ++ c)
appended [] b c = refl
appended (x ∷ a) b c = ap (λ (y : History). x ∷ y) (appended a b c)

pub IsPast-trans : (f g h : History) → IsPast f g → IsPast g h → IsPast f h
IsPast-trans f g h p q = (q.0 ++ p.0, appended q.0 p.0 f ∙ ap (λ (x : History). q.0 ++ x) p.1 ∙ q.1)

pub IsPast-nil : (h : History) → IsPast [] h
IsPast-nil [] = ([], refl)
IsPast-nil (c ∷ h) = IsPast-cons c [] h (IsPast-nil h)

at_most : (a g : History) → length g ≤ length (a ++ g)
at_most [] g = omega arith
at_most (x ∷ a) g = omega (arith, at_most a g)

-- of two pasts of one history the one that is no longer is a past of the other
nested : (a b g h : History) → a ++ g ≡ b ++ h → length g ≤ length h → IsPast g h
nested a [] g h same le = (a, same)
nested [] (y ∷ b) g h same le = let size : length g ≡ length (y ∷ b ++ h) = ap (λ (x : History). length x) same in absurd (omega (arith, le, size, at_most b h))
nested (x ∷ a) (y ∷ b) g h same le = nested a b g h (cc) le

pub nested_pasts : (g h k : History) → IsPast g k → IsPast h k → length g ≤ length h → IsPast g h
nested_pasts g h k p q le = nested p.0 q.0 g h (p.1 ∙ sym q.1) le

module _ (g h k : History) (p : IsPast g k) (q : IsPast h k) where
  pub longer-past : IsPast (longer g h) k
  longer-past = elim (nat_lt (length g) (length h)) as (λ b. IsPast (cond b h g) k) [ true ↦ q | false ↦ p ]

  pub longer-first : IsPast g (longer g h)
  longer-first = elim (nat_lt (length g) (length h)) as (λ b. nat_lt (length g) (length h) ≡ b → IsPast g (cond b h g)) [
    | true ↦ λ lt. nested_pasts g h k p q (grind (arith, nat_tests))
    | false ↦ λ _. IsPast-self g
  ] refl

  pub longer-second : IsPast h (longer g h)
  longer-second = elim (nat_lt (length g) (length h)) as (λ b. nat_lt (length g) (length h) ≡ b → IsPast h (cond b h g)) [
    | true ↦ λ _. IsPast-self h
    | false ↦ λ ge. nested_pasts h g k q p (grind (arith, nat_tests))
  ] refl
