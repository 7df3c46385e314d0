-- Where a run stands between two reads.
use Rattle.std.specs.Prelude.{◌≡◌, ℕ, ◌≤◌, List, ◌++◌, length, Option, Result, MatchResult, ⊤}
use Rattle.std.specs.List.{AllByRecursion, flat_map}
use Rattle.std.specs.Io.KnownBytes.{Appends}
use Rattle.slp_script.specs.Commands.{longest_line}
use Rattle.slp_script.specs.Lines.{Line, line_bytes, HasNoLf}
use Rattle.replay_program.specs.Worlds.{Run, RunsUpTo, RunsPart}
use Rattle.replay_program.specs.Turns.{Stands}
use Rattle.replay_program.specs.declared.progress.Progress.{Progress}
use Rattle.replay_program.specs.declared.fault.RunFault.{RunFault}
use Rattle.replay_program.specs.declared.fault.RunFault.TheVariants as fault
use Rattle.replay_program.specs.declared.fault.RunFault.TheVariants.{Read, Write, NoMemory}

-- the bytes that were read brought the run here, with a line begun, and this was written
pub record StandsAfter (read out line : List ℕ) (p : Progress) : Type 0 where
  pub lines : List Line
  pub text : read ≡ flat_map line_bytes lines ++ line
  pub each : AllByRecursion HasNoLf lines
  pub unended : HasNoLf line
  pub short : length line ≤ longest_line
  pub stands : Stands lines out p

-- what was written after `out` when the run failed, where these bytes had been read
abbrev pub FeedFails : Option (List ℕ) → Option (List ℕ) → List ℕ → List ℕ → RunFault → Type 0
FeedFails old new read out (fault.Line n) = (now : List ℕ) × Appends old new now × ((more : List ℕ) → RunsUpTo (read ++ more) n (out ++ now))
FeedFails old new read out NoMemory = (now : List ℕ) × Appends old new now × ((more : List ℕ) → RunsPart (read ++ more) (out ++ now))
FeedFails old new read out Write = ⊤
FeedFails old new read out Read = ⊥

-- what was written after `out`, and where the run stands, when these bytes had been read
abbrev pub FeedGoesOn : Option (List ℕ) → Option (List ℕ) → List ℕ → List ℕ → List ℕ → Progress → Type 0
FeedGoesOn old new read out line p = (now : List ℕ) × Appends old new now × StandsAfter read (out ++ now) line p

abbrev pub Feeds : Option (List ℕ) → Option (List ℕ) → List ℕ → List ℕ → Result (Unit {0}) RunFault → List ℕ → Progress → Type 0
Feeds old new read out r line p = MatchResult r (λ _. FeedGoesOn old new read out line p) (FeedFails old new read out)

-- what the end of all that was read gives
abbrev pub EndFails : Option (List ℕ) → Option (List ℕ) → List ℕ → List ℕ → RunFault → Type 0
EndFails w w' read out (fault.Line n) = (now : List ℕ) × Appends w w' now × RunsUpTo read n (out ++ now)
EndFails w w' read out NoMemory = (now : List ℕ) × Appends w w' now × ((more : List ℕ) → RunsPart (read ++ more) (out ++ now))
EndFails w w' read out Write = ⊤
EndFails w w' read out Read = ⊥

abbrev pub Ends : Option (List ℕ) → Option (List ℕ) → List ℕ → List ℕ → Result (Unit {0}) RunFault → Type 0
Ends w w' read out result = MatchResult result (λ _. (now : List ℕ) × Appends w w' now × Run read (out ++ now)) (EndFails w w' read out)
