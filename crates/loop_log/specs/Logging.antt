-- How lines wait, and go to a log.
use Rattle.std.specs.Prelude.{◌≡◌, ◌⊎◌, ℕ, List, [], ◌++◌}

-- what may happen at a log: the log before, the bytes that are handed over at once, and the log after
abbrev pub Logs : Type 0 → Type 1
Logs L = L → List ℕ → L → Type 0

-- the bytes of the lines that wait, and the log to which they go
pub record Logging (L : Type 0) : Type 0 where
  pub waiting : List ℕ
  pub log : L

module _ {L : Type 0} (writes : Logs L) where
  -- All that waits is handed over, at once and whole. Where nothing waits, nothing is.
  abbrev pub IsOut : Logging L → Logging L → Type 0
  IsOut before after = (after.waiting ≡ []) × (((before.waiting ≡ []) × (after.log ≡ before.log)) ⊎ writes before.log before.waiting after.log)

  -- all that waits is handed over, and then this is, at once and whole
  pub record IsOutWith (before : Logging L) (line : List ℕ) (after : Logging L) : Type 0 where
    pub between : Logging L
    pub out : IsOut before between
    pub written : writes between.log line after.log
    pub none : after.waiting ≡ []

  -- a line waits behind those that do; or those are out, and then it is
  abbrev pub Lined : Logging L → List ℕ → Logging L → Type 0
  Lined before line after = ((after.waiting ≡ before.waiting ++ line) × (after.log ≡ before.log)) ⊎ IsOutWith before line after
