-- What the threads of a server do.
use Rattle.std.specs.Prelude.{◌≡◌, ℕ, ⊤, List, [], ◌∷◌, ◌++◌, take}
use Rattle.agent_parts.specs.declared.threads.Job.{Job}
use Rattle.agent_parts.specs.declared.threads.Job.TheVariants.{Serve, Other}

module _ {S T : Type 0} where
  -- a loop serves by a desk that has the address at which it listens
  abbrev pub IsLoop : (S → ℕ) → Job S T → ℕ × ℕ → Type 0
  IsLoop own (Serve l) place = own l.server ≡ place.0
  IsLoop own (Other t) place = ⊥

  -- there is one for each address, in their order, and no other
  abbrev pub AreLoops : (S → ℕ) → List (Job S T) → List (ℕ × ℕ) → Type 0
  AreLoops own [] [] = ⊤
  AreLoops own [] (p ∷ ps) = ⊥
  AreLoops own (j ∷ js) [] = ⊥
  AreLoops own (j ∷ js) (p ∷ ps) = IsLoop own j p × AreLoops own js ps

  -- a loop for each address, one more for each of the first so many, and last what sweeps, so often
  pub record AreJobs (own : S → ℕ) (interval_of : T → ℕ) (jobs : List (Job S T)) (places : List (ℕ × ℕ)) (others interval : ℕ) : Type 0 where
    pub loops : List (Job S T)
    pub beside : List (Job S T)
    pub sweeping : T
    pub are : jobs ≡ (loops ++ beside) ++ Other sweeping ∷ []
    pub serve : AreLoops own loops places
    pub serve_beside : AreLoops own beside (take others places)
    pub sweeps : interval_of sweeping ≡ interval
