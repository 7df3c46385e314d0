-- What one write does to a connection.
use Rattle.std.specs.Prelude.{◌≡◌, ◌⊎◌, ℕ, true, List, ◌++◌, Option, Result, MatchResult}
use Rattle.std.specs.Io.KnownBytes.{Appends}
use Rattle.slp_sockets.specs.Linking.{Link, next_written}
use Rattle.slp_sockets.specs.declared.connection.Next.{Next}
use Rattle.slp_sockets.specs.declared.connection.Next.TheVariants.{More, Blocked}
use Rattle.slp_sockets.specs.declared.connection.Stage.TheVariants.{Failed}
use Rattle.slp_sockets.specs.declared.fault.LoopFault.{LoopFault}
use Rattle.slp_sockets.specs.declared.fault.LoopFault.TheVariants.{Io}

-- what was written, followed by what still waits, is what waited
pub record Wrote (held holds : Option (List ℕ)) (waited waits : List ℕ) : Type 0 where
  pub bytes : List ℕ
  pub written : Appends held holds bytes
  pub rest : waited ≡ bytes ++ waits

-- what is left of a connection beside what waits, and what is answered: bytes were taken, and it moved, or nothing was
abbrev pub Writes : (l : Link) (result : Result Next LoopFault) (m : Link) → Type 0
Writes l result m =
    MatchResult result
    (λ next. ((m ≡ record l { waiting = m.waiting; moved = true }) × (next ≡ next_written m.stage m.waiting)) ⊎ ((next ≡ Blocked) × (m ≡ l)) ⊎ ((next ≡ More) × (m ≡ l)))
    (λ fault. (fault ≡ Io) × (m ≡ record l { stage = Failed }))
