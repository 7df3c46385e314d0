use Rattle.std.proofs.Common.{arith, ◌≡◌, ◌<◌, ◌+◌, ◌∷◌, [], ℕ, List, Option, Some, None, Result, Ok, Err, length, refl, sym, ◌∙◌}
use Rattle.std.proofs.lemmas.Result.{err_from_is_err_and}
use Rattle.replay_program.specs.declared.fault.RunFault.{RunFault}
use Rattle.replay_program.specs.declared.fault.RunFault.TheVariants as fault
use Rattle.replay_program.specs.declared.fault.RunFault.TheVariants.{Read, Write, NoMemory}
use Rattle.replay_program.specs.declared.progress.OpenBlock.{OpenBlock}
use Rattle.replay_program.specs.declared.progress.Progress.{Progress}
use Rattle.std.specs.Prelude.{MatchOption, ◌==◌}
use Rattle.std.proofs.Common.{Bool, true, false}
use Rattle.std.proofs.lemmas.Bool.{eqb-true}
use Rattle.std.proofs.lemmas.Bool.Decides.{nat_tests}
use Rattle.std.specs.Io.KnownBytes.{Appends}
use Rattle.replay_program.specs.Turns.{TurnsTo}
use Rattle.replay_program.specs.Reads.{StandsAfter}
use Rattle.replay_program.specs.Reads.{Ends, EndFails}
use Rattle.std.proofs.lemmas.List.{append-nil}
use Rattle.replay_program.proofs.Transfers.{Appends-none, Appends-keeps}
use Rattle.replay_program.proofs.ProgressByLine.{FailsAs, fails_as}
use Rattle.replay_program.proofs.ProgressByBytes.{StandsAfter-part, StandsAfter-closed, StandsAfter-open, StandsAfter-closed_last, StandsAfter-open_last, StandsAfter-fault_last}
use Rattle.replay_program.proofs.line_input.finish.Goals as goal

is_some : (l : List ℕ) (b : Bool) → b ≡ (length l == 0) → b ≡ false → 0 < length l
is_some l b e f = grind (arith, nat_tests)

is_none : (l : List ℕ) (b : Bool) → b ≡ (length l == 0) → b ≡ true → l ≡ []
is_none [] b e t = refl
is_none (x ∷ l) b e t = absurd (omega (arith, eqb-true (length (x ∷ l)) 0 (sym e ∙ t)))

last_fails : (w v : Option (List ℕ)) (read out line : List ℕ) (p : Progress) (e : RunFault) → StandsAfter read out line p → 0 < length line → FailsAs p.block p.session (p.number + 1) line w v e → EndFails w v read out e
last_fails w v read out line p Read s some f = f
last_fails w v read out line p Write s some f = tt
last_fails w v read out line p NoMemory s some f =
    ([], Appends-keeps w w v [] (Appends-none w) f, λ more. rw (append-nil out) (StandsAfter-part read out line p more s))
last_fails w v read out line p (fault.Line n) s some f =
    ([], Appends-keeps w w v [] (Appends-none w) f.2, rw (append-nil out, f.0) (StandsAfter-fault_last read out line p s some f.1))

pub returns-in_err-turn : goal.returns-in_err-turn
returns-in_err-turn g c = λ read out s.
    let p = err_from_is_err_and c.from_residual.result c.from_residual.ensures.1 in
    rw (p.1, p.2) (last_fails _ _ read out c.args.line.now c.args.progress.now _ s (is_some c.args.line.now _ c.is_empty.ensures c.if-is_empty.false) (fails_as _ c.args.progress.now _ _ _ _ c.in_err-turn.ensures))

end_here : (w : Option (List ℕ)) (read out : List ℕ) (p : Progress) (block : Option OpenBlock) (r : Result (Unit {0}) RunFault) → p.block ≡ block → StandsAfter read out [] p → MatchOption block (r ≡ Ok tt) (λ b. r ≡ Err (fault.Line b.begun)) → Ends w w read out r
end_here w read out p None r b s e = rw e ([], Appends-none w, rw (append-nil out) (StandsAfter-closed read out p s b))
end_here w read out p (Some x) r b s e = rw e ([], Appends-none w, rw (append-nil out) (StandsAfter-open read out p x s b))

end_last : (w v : Option (List ℕ)) (read out line : List ℕ) (p : Progress) (now : List ℕ) (q : Progress) (block : Option OpenBlock) (r : Result (Unit {0}) RunFault) → q.block ≡ block → StandsAfter read out line p → 0 < length line → Appends w v now → TurnsTo p line now q → MatchOption block (r ≡ Ok tt) (λ b. r ≡ Err (fault.Line b.begun)) → Ends w v read out r
end_last w v read out line p now q None r b s some a t e = rw e (now, a, StandsAfter-closed_last read out line p now q s some t b)
end_last w v read out line p now q (Some x) r b s some a t e = rw e (now, a, StandsAfter-open_last read out line p now q x s some t b)

pub returns-then-is_empty : goal.returns-then-is_empty
returns-then-is_empty g c = λ read out s.
    let none = is_none c.args.line.now _ c.is_empty.ensures c.if-is_empty.true in
    let t : StandsAfter read out [] c.args.progress.now = rw none at s in
    end_here _ read out c.args.progress.now c.args.progress.now.block _ refl t c.ending.ensures

pub returns : goal.returns
returns g c = λ read out s.
    let h = c.in_ok-turn.ensures in
    end_last _ _ read out c.args.line.now c.args.progress.now h.0 c.turn.new.self c.turn.new.self.block _ refl s (is_some c.args.line.now _ c.is_empty.ensures c.if-is_empty.false) h.1 h.2 c.ending-2.ensures
