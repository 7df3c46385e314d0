-- What the status of the program says.
use Rattle.std.specs.Prelude.{◌≡◌, ℕ, List, [], ◌∷◌, ◌++◌, Option, codes}
use Rattle.std.specs.Fmt.{decimal}
use Rattle.std.specs.Io.KnownBytes.{Appends}
use Rattle.replay_program.specs.Gives.{FaultGives, Whole}
use Rattle.replay_program.specs.declared.fault.RunFault.TheVariants as fault
use Rattle.replay_program.specs.declared.fault.RunFault.TheVariants.{Read, NoMemory}
use Rattle.slp_text.specs.Ascii.{line_feed}

-- what is written for a line at fault
abbrev pub fault_text : ℕ → List ℕ
fault_text n = codes "! line " ++ decimal n ++ line_feed ∷ []

-- r and r' are what the reader has left before and after, w and w' what the writer holds
pub data Reports (r r' w w' : Option (List ℕ)) (status : ℕ) : Type 0 where
  -- the script ran to its end
  Done : status ≡ 0 → Whole r r' w w' → Reports r r' w w' status
  -- the reader failed
  Unread : status ≡ 1 → FaultGives r r' w w' Read → Reports r r' w w' status
  -- the writer failed
  Unwritten : status ≡ 2 → Reports r r' w w' status
  -- a line is at fault, and its number is written
  AtFault : (n : ℕ) (v : Option (List ℕ)) → status ≡ 3 → FaultGives r r' w v (fault.Line n) → Appends v w' (fault_text n) → Reports r r' w w' status
  -- memory ran out
  Lacks : status ≡ 4 → FaultGives r r' w w' NoMemory → Reports r r' w w' status
