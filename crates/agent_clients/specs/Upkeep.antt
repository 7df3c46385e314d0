-- How registrations are kept alive: what is looked at, what is sent and when, and how it ends.
use Rattle.std.specs.Prelude.{◌≡◌, ◌⊎◌, ℕ, Bool, true, false, List, [], ◌∷◌, map, Result, Ok, Err}
use Rattle.agent_clients.specs.Keeping.{Keeping, renewed, sent, xid_after}
use Rattle.agent_clients.specs.Runs.{Mays}
use Rattle.agent_clients.specs.declared.fault.ClientFault.{ClientFault}
use Rattle.agent_clients.specs.declared.fault.ClientFault.TheVariants.{NoMemory}

pub data Act : Type 0 where
  -- the flag was looked at: whether it is set
  Looked : Bool → Act
  -- the clock told the moment, in seconds since the start
  Told : Result ℕ ClientFault → Act
  -- this message was sent, and acknowledged or not
  Asked : List ℕ → Result (Unit {0}) ClientFault → Act
  -- it rested a while
  Rested : Act

-- what may happen outside
abbrev pub Outsides : Type 0 → Type 1
Outsides O = Mays O Act

-- what one who keeps registrations alive is about
pub data Duty : Type 0 where
  -- to look at the flag
  Looks : Keeping → Duty
  -- to see at what moment it is what is due
  Turns : Keeping → Duty
  -- to send these messages, in their order
  Sends : Keeping → List (List ℕ) → Duty
  -- nothing more: this was answered
  Ends : Result (Unit {0}) ClientFault → Duty

-- what is kept after a turn at a moment
abbrev pub kept_after : ℕ → Keeping → Keeping
kept_after now k = record { kept = map (renewed now) k.kept; xid = xid_after now k.xid k.kept }

-- The flag is looked at first in each turn. Then what is due at the moment is sent, each message once, and it ends at the first that is not acknowledged. It rests between two turns.
abbrev pub Keeps : Duty → Act → Duty → Type 0
Keeps (Looks k) (Looked true) after = after ≡ Ends (Ok tt)
Keeps (Looks k) (Looked false) after = after ≡ Turns k
Keeps (Turns k) (Told (Ok now)) after = (after ≡ Ends (Err NoMemory)) ⊎ (after ≡ Sends (kept_after now k) (sent now k.xid k.kept))
Keeps (Turns k) (Told (Err e)) after = after ≡ Ends (Err e)
Keeps (Sends k (m ∷ ms)) (Asked bytes (Ok x)) after = (bytes ≡ m) × (after ≡ Sends k ms)
Keeps (Sends k (m ∷ ms)) (Asked bytes (Err e)) after = (bytes ≡ m) × (after ≡ Ends (Err e))
Keeps (Sends k []) Rested after = after ≡ Looks k
Keeps _ _ after = ⊥
