-- What one who keeps registrations alive does in a turn.
use Rattle.std.proofs.Common.{◌≡◌, ◌∷◌, [], ℕ, List, length, Result, Ok, Err, refl, sym, subst, arith}
use Rattle.std.specs.Prelude.{MatchResult}
use Rattle.agent_clients.specs.Keeping.{Keeping}
use Rattle.agent_clients.specs.Runs.{Goes}
use Rattle.agent_clients.specs.Upkeep.{Duty, Outsides, Asked, Sends, Ends, Keeps}
use Rattle.agent_clients.specs.declared.fault.ClientFault.{ClientFault}
use Rattle.agent_clients.proofs.Courses.{goes_one, goes_on}

pub none_left : {A : Type 0} (xs : List A) → length xs ≡ 0 → xs ≡ []
none_left [] is = refl
none_left (x ∷ xs) is = absurd (omega (arith, is))

module _ {O : Type 0} (may : Outsides O) where
  -- the first message is acknowledged, or not
  pub asked_one : (a b : O) (k : Keeping) (all : List (List ℕ)) (m : List ℕ) (ms : List (List ℕ)) (x : Unit {0}) → all ≡ m ∷ ms → may a (Asked m (Ok x)) b → Goes may Keeps a (Sends k all) b (Sends k ms)
  asked_one a b k all m ms x is asked = subst (λ l. Goes may Keeps a (Sends k l) b (Sends k ms)) (sym is) (goes_one may Keeps a b (Sends k (m ∷ ms)) (Sends k ms) (Asked m (Ok x)) asked (refl, refl))

  pub asked_last : (a b : O) (k : Keeping) (all : List (List ℕ)) (m : List ℕ) (ms : List (List ℕ)) (e : ClientFault) → all ≡ m ∷ ms → may a (Asked m (Err e)) b → Goes may Keeps a (Sends k all) b (Ends (Err e))
  asked_last a b k all m ms e is asked = subst (λ l. Goes may Keeps a (Sends k l) b (Ends (Err e))) (sym is) (goes_one may Keeps a b (Sends k (m ∷ ms)) (Ends (Err e)) (Asked m (Err e)) asked (refl, refl))

  -- what comes after a beginning comes after all
  pub after_both : (a b c : O) (s t : Duty) (k : Keeping) (told : Result (Unit {0}) ClientFault) → Goes may Keeps a s b t → MatchResult told (λ x. Goes may Keeps b t c (Sends k [])) (λ e. Goes may Keeps b t c (Ends (Err e)))
      → MatchResult told (λ x. Goes may Keeps a s c (Sends k [])) (λ e. Goes may Keeps a s c (Ends (Err e)))
  after_both a b c s t k (Ok x) first second = goes_on may Keeps a b c s t (Sends k []) first second
  after_both a b c s t k (Err e) first second = goes_on may Keeps a b c s t (Ends (Err e)) first second
