use Rattle.std.proofs.Common.{arith, ◌≡◌, ℕ, Bool, false, List, Option, sym, ◌∙◌}
use Rattle.std.specs.Prelude.{◌==◌}
use Rattle.std.specs.Io.KnownBytes.{Keeps}
use Rattle.std.proofs.lemmas.Bool.Decides.{nat_tests}
use Rattle.replay_program.specs.Reports.{Reports, Done, Unread, Unwritten, AtFault, Lacks}
use Rattle.replay_program.proofs.Transfers.{Appends-keeps}
use Rattle.replay_program.proofs.program.replay_run.Goals as goal
use Rattle.replay_program.proofs.program.replay_run.Goals.{then-is_empty, else-is_empty+in-Ok, else-is_empty+in-Err}

-- what was reported stays so when the writer is flushed
Reports-keeps : (r n w v u : Option (List ℕ)) (status : ℕ) → Reports r n w v status → Keeps v u → Reports r n w u status
Reports-keeps r n w v u status (Done s h) k = Done s (h.0, h.1, h.2, h.3, Appends-keeps w v u h.1 h.4 k, h.5)
Reports-keeps r n w v u status (Unread s h) k = Unread s (h.0, h.1, h.2, Appends-keeps w v u h.1 h.3 k, h.4)
Reports-keeps r n w v u status (Unwritten s) k = Unwritten s
Reports-keeps r n w v u status (AtFault line mid s h a) k = AtFault line mid s h (Appends-keeps mid v u _ a k)
Reports-keeps r n w v u status (Lacks s h) k = Lacks s (h.0, h.1, h.2, Appends-keeps w v u h.1 h.3 k, h.4)

some_word : (n : ℕ) (b : Bool) → b ≡ (n == 0) → b ≡ false → n ≡ 0 → ⊥
some_word n b e f none = grind (arith, nat_tests)

pub returns-in-Ok-flush-clause-runs : goal.returns-in-Ok-flush-clause-runs
returns-in-Ok-flush-clause-runs g c = λ none. elim c.if-is_empty.branch [
  | then-is_empty w ↦
      let told = rw (sym w.told-is ∙ c.in-Ok-told.is) at w.replay-told.ensures in
      let kept : Keeps (g.W.Write.contents w.replay-told.new.writer) (g.W.Write.contents c.flush.new.self) = rw (← w.writer-is) c.flush.ensures.bytes in
      rw w.reader-is (Reports-keeps _ _ _ _ _ _ told kept)
  | else-is_empty+in-Ok w ↦ absurd (some_word _ _ c.is_empty.ensures w.if-is_empty.false none)
  | else-is_empty+in-Err w ↦ absurd (some_word _ _ c.is_empty.ensures w.if-is_empty.false none)
]
