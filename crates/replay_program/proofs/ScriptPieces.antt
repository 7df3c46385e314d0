-- What a piece of the script does to a run.
use Rattle.std.proofs.Common.{◌≡◌, ℕ, ◌+◌, ◌<◌, ◌≤◌, List, [], ◌∷◌, ◌++◌, length, Option, subst, append_assoc}
use Rattle.std.specs.Io.KnownBytes.{Appends}
use Rattle.slp_script.specs.Lines.{HasNoLf}
use Rattle.slp_script.specs.Commands.{longest_line}
use Rattle.replay_program.specs.Worlds.{RunsUpTo, RunsPart}
use Rattle.replay_program.specs.Turns.{TurnsTo}
use Rattle.replay_program.specs.Reads.{StandsAfter, FeedFails, FeedGoesOn}
use Rattle.replay_program.specs.declared.progress.Progress.{Progress}
use Rattle.replay_program.specs.declared.fault.RunFault.{RunFault}
use Rattle.replay_program.specs.declared.fault.RunFault.TheVariants as fault
use Rattle.replay_program.specs.declared.fault.RunFault.TheVariants.{Read, Write, NoMemory}
use Rattle.replay_program.proofs.Transfers.{Appends-append, Appends-keeps}
use Rattle.replay_program.proofs.ProgressByLine.{FailsAs}
use Rattle.replay_program.proofs.ProgressByBytes.{StandsAfter-more, StandsAfter-turn, StandsAfter-part, StandsAfter-fault, StandsAfter-long}
use Rattle.slp_text.specs.Ascii.{line_feed}

-- where the bytes so far are the piece's first, the rest of the piece may follow
split_piece : (read done xs tail piece more : List ℕ) → piece ≡ done ++ (xs ++ tail) → ((read ++ done) ++ xs) ++ (tail ++ more) ≡ (read ++ piece) ++ more
split_piece read done xs tail piece more e = rw e (simp append_assoc)

split_more : (read done tail piece more : List ℕ) → piece ≡ done ++ tail → (read ++ done) ++ (tail ++ more) ≡ (read ++ piece) ++ more
split_more read done tail piece more e = rw e (simp append_assoc)

split_rest : (read done tail piece : List ℕ) → piece ≡ done ++ tail → (read ++ done) ++ tail ≡ read ++ piece
split_rest read done tail piece e = rw e (append_assoc read done tail)

split_line : (read done xs : List ℕ) → ((read ++ done) ++ xs) ++ line_feed ∷ [] ≡ read ++ (done ++ (xs ++ line_feed ∷ []))
split_line read done xs = simp append_assoc

pub FeedGoesOn-long : (w v : Option (List ℕ)) (read out line : List ℕ) (p : Progress) (done xs tail piece : List ℕ) → FeedGoesOn w v (read ++ done) out line p → piece ≡ done ++ (xs ++ tail) → HasNoLf xs → longest_line < length (line ++ xs) → FeedFails w v (read ++ piece) out (fault.Line (p.number + 1))
FeedGoesOn-long w v read out line p done xs tail piece t e free long =
    (t.0, t.1, λ more. subst (λ (s : List ℕ). RunsUpTo s (p.number + 1) (out ++ t.0)) (split_piece read done xs tail piece more e) (StandsAfter-long (read ++ done) (out ++ t.0) line p xs (tail ++ more) t.2 free long))

pub FeedGoesOn-memory : (w v : Option (List ℕ)) (read out line : List ℕ) (p : Progress) (done tail piece : List ℕ) → FeedGoesOn w v (read ++ done) out line p → piece ≡ done ++ tail → FeedFails w v (read ++ piece) out NoMemory
FeedGoesOn-memory w v read out line p done tail piece t e =
    (t.0, t.1, λ more. subst (λ (s : List ℕ). RunsPart s (out ++ t.0)) (split_more read done tail piece more e) (StandsAfter-part (read ++ done) (out ++ t.0) line p (tail ++ more) t.2))

pub FeedGoesOn-turn_fails : (w v u : Option (List ℕ)) (read out line : List ℕ) (p : Progress) (done xs tail piece : List ℕ) (e : RunFault) → FeedGoesOn w v (read ++ done) out line p → piece ≡ done ++ (xs ++ line_feed ∷ tail) → HasNoLf xs → length (line ++ xs) ≤ longest_line → FailsAs p.block p.session (p.number + 1) (line ++ xs) v u e → FeedFails w u (read ++ piece) out e
FeedGoesOn-turn_fails w v u read out line p done xs tail piece Read t is free short f = f
FeedGoesOn-turn_fails w v u read out line p done xs tail piece Write t is free short f = tt
FeedGoesOn-turn_fails w v u read out line p done xs tail piece NoMemory t is free short f =
    (t.0, Appends-keeps w v u t.0 t.1 f, λ more. subst (λ (s : List ℕ). RunsPart s (out ++ t.0)) (split_more read done (xs ++ line_feed ∷ tail) piece more is) (StandsAfter-part (read ++ done) (out ++ t.0) line p ((xs ++ line_feed ∷ tail) ++ more) t.2))
FeedGoesOn-turn_fails w v u read out line p done xs tail piece (fault.Line n) t is free short f =
    let whole = StandsAfter-more (read ++ done) (out ++ t.0) line p xs t.2 free short in
    (t.0, Appends-keeps w v u t.0 t.1 f.2, λ more. subst (λ (s : List ℕ). RunsUpTo s n (out ++ t.0)) (split_piece read done xs (line_feed ∷ tail) piece more is) (rw (f.0) (StandsAfter-fault ((read ++ done) ++ xs) (out ++ t.0) (line ++ xs) p (tail ++ more) whole f.1)))

pub FeedGoesOn-turned : (w v u : Option (List ℕ)) (read out line : List ℕ) (p : Progress) (done xs now : List ℕ) (q : Progress) → FeedGoesOn w v (read ++ done) out line p → HasNoLf xs → length (line ++ xs) ≤ longest_line → Appends v u now → TurnsTo p (line ++ xs) now q → FeedGoesOn w u (read ++ (done ++ (xs ++ line_feed ∷ []))) out [] q
FeedGoesOn-turned w v u read out line p done xs now q t free short writes turns =
    let whole = StandsAfter-more (read ++ done) (out ++ t.0) line p xs t.2 free short in
    let after = StandsAfter-turn ((read ++ done) ++ xs) (out ++ t.0) (line ++ xs) p now q whole turns in
    (t.0 ++ now, Appends-append w v u t.0 now t.1 writes, rw (← append_assoc out t.0 now, ← split_line read done xs) after)

pub FeedGoesOn-rest : (w v : Option (List ℕ)) (read out line : List ℕ) (p : Progress) (done xs piece : List ℕ) → FeedGoesOn w v (read ++ done) out line p → piece ≡ done ++ xs → HasNoLf xs → length (line ++ xs) ≤ longest_line → FeedGoesOn w v (read ++ piece) out (line ++ xs) p
FeedGoesOn-rest w v read out line p done xs piece t e free short =
    let whole = StandsAfter-more (read ++ done) (out ++ t.0) line p xs t.2 free short in
    (t.0, t.1, subst (λ (s : List ℕ). StandsAfter s (out ++ t.0) (line ++ xs) p) (split_rest read done xs piece e) whole)
