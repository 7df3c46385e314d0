-- What is done while a sweeper is turned, second after second.
use Rattle.std.specs.Prelude.{◌≡◌, ◌⊎◌, ℕ, zero, suc, Bool, true, false, List, [], ◌∷◌, ◌++◌}

pub data Deed : Type 0 where
  -- the flag was looked at: whether all is to end
  Looked : Bool → Deed
  -- it slept for so many milliseconds
  Napped : ℕ → Deed
  -- the sweeper was turned
  Turned : Deed

-- what may be done: the state before, what is done, and the state after
abbrev pub Deeds : Type 0 → Type 1
Deeds W = W → Deed → W → Type 0

-- these are done, one after the other, and nothing else
abbrev pub Does : {W : Type 0} → Deeds W → W → List Deed → W → Type 0
Does may before [] after = after ≡ before
Does {W = W} may before (d ∷ ds) after = (between : W) × may before d between × Does may between ds after

-- So many naps of 200 ms. The flag is looked at before each, and where it is set no more is done.
abbrev pub Sleeps : ℕ → Bool → List Deed → Type 0
Sleeps zero awake ds = (awake ≡ true) × (ds ≡ [])
Sleeps (suc n) awake ds = ((awake ≡ false) × (ds ≡ Looked true ∷ [])) ⊎ ((later : List Deed) × (ds ≡ Looked false ∷ (Napped 200 ∷ later)) × Sleeps n awake later)

-- so many turns, five naps before each, and the naps at whose end all is over
abbrev pub SweepsSo : ℕ → List Deed → Type 0
SweepsSo zero ds = Sleeps 5 false ds
SweepsSo (suc n) ds = (slept : List Deed) × (later : List Deed) × Sleeps 5 true slept × SweepsSo n later × (ds ≡ slept ++ (Turned ∷ later))

-- some turns
abbrev pub Sweeps : List Deed → Type 0
Sweeps ds = (turns : ℕ) × SweepsSo turns ds
