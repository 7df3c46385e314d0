-- What a run promises of what it read and wrote.
use Rattle.std.specs.Prelude.{◌≡◌, ◌≤◌, ◌⊎◌, ℕ, List, ◌++◌, length, Option, IfSome, Result, MatchResult, ⊤}
use Rattle.std.specs.Io.KnownBytes.{Appends, Consumes, IsAtEnd}
use Rattle.replay_program.specs.Worlds.{Run, RunsUpTo, RunsPart, RunsWhole}
use Rattle.replay_program.specs.declared.fault.RunFault.{RunFault}
use Rattle.replay_program.specs.declared.fault.RunFault.TheVariants as fault
use Rattle.replay_program.specs.declared.fault.RunFault.TheVariants.{Read, Write, NoMemory}

-- the bytes that one read asks for
abbrev pub longest_read : ℕ
longest_read = 65536

-- All commands of what was read before the last read were carried out, and this begins with their output. Of those that the last read brought the first
-- were, whatever follows them: which one found no memory nothing tells but the end of the output.
pub record RunsOn (read out : List ℕ) : Type 0 where
  pub earlier : List ℕ
  pub last : List ℕ
  pub all_read : read ≡ earlier ++ last
  pub one_read : length last ≤ longest_read
  pub said : List ℕ
  pub rest : List ℕ
  pub all_said : out ≡ said ++ rest
  pub whole : RunsWhole earlier said
  pub part : (more : List ℕ) → RunsPart (read ++ more) out

-- r and r' are what the reader has left before and after, w and w' what the writer holds
abbrev pub FaultGives : Option (List ℕ) → Option (List ℕ) → Option (List ℕ) → Option (List ℕ) → RunFault → Type 0
-- line n is the first at fault whatever follows, or all was read
FaultGives r r' w w' (fault.Line n) = (read out : List ℕ) × Consumes r r' read × Appends w w' out × (((more : List ℕ) → RunsUpTo (read ++ more) n out) ⊎ (IsAtEnd r' × RunsUpTo read n out))
FaultGives r r' w w' Read = (read out : List ℕ) × Consumes r r' read × Appends w w' out × RunsWhole read out
FaultGives r r' w w' NoMemory = (read out : List ℕ) × Consumes r r' read × Appends w w' out × RunsOn read out
FaultGives r r' w w' Write = ⊤

-- all was read, and it is a script of which this is an output
abbrev pub Whole : Option (List ℕ) → Option (List ℕ) → Option (List ℕ) → Option (List ℕ) → Type 0
Whole r r' w w' = (script out : List ℕ) × Consumes r r' script × IsAtEnd r' × Appends w w' out × Run script out

abbrev pub Gives : Option (List ℕ) → Option (List ℕ) → Option (List ℕ) → Option (List ℕ) → Result (Unit {0}) RunFault → Type 0
Gives r r' w w' result = MatchResult result (λ _. Whole r r' w w') (FaultGives r r' w w')

-- Where it is known what the reader has, that is the script: what a run of it promises.
abbrev pub KnownFault : List ℕ → Option (List ℕ) → Option (List ℕ) → RunFault → Type 0
KnownFault script w w' (fault.Line n) = (out : List ℕ) × Appends w w' out × RunsUpTo script n out
KnownFault script w w' Read = ⊤
KnownFault script w w' Write = ⊤
KnownFault script w w' NoMemory = (out : List ℕ) × Appends w w' out × RunsPart script out

abbrev pub KnownGives : Option (List ℕ) → Option (List ℕ) → Option (List ℕ) → Result (Unit {0}) RunFault → Type 0
KnownGives r w w' result = IfSome r (λ script. MatchResult result (λ _. (out : List ℕ) × Appends w w' out × Run script out) (KnownFault script w w'))
