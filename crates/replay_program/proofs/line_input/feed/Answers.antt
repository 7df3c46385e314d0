use Rattle.std.proofs.Common.{arith, ◌≡◌, ◌<◌, ◌+◌, ◌++◌, ◌∷◌, [], ℕ, List, Option, length, refl, sym, ap, subst, ◌∙◌, append_assoc, inl, inr, length-append}
use Rattle.std.specs.Prelude.{◌⊎◌}
use Rattle.std.proofs.lemmas.List.{append-nil}
use Rattle.std.proofs.lemmas.Result.{err_from_is_err_and}
use Rattle.slp_script.specs.Lines.{HasNoLf}
use Rattle.slp_script.specs.Commands.{longest_line}
use Rattle.replay_program.specs.declared.fault.RunFault.{RunFault}
use Rattle.replay_program.specs.declared.fault.RunFault.TheVariants as fault
use Rattle.replay_program.specs.declared.fault.RunFault.TheVariants.{NoMemory}
use Rattle.replay_program.specs.declared.progress.Progress.{Progress}
use Rattle.replay_program.specs.Reads.{FeedGoesOn, FeedFails}
use Rattle.replay_program.proofs.Transfers.{Appends-none}
use Rattle.replay_program.proofs.ScriptPieces.{FeedGoesOn-long, FeedGoesOn-memory, FeedGoesOn-turn_fails, FeedGoesOn-turned, FeedGoesOn-rest}
use Rattle.replay_program.proofs.ProgressByLine.{fails_as}
use Rattle.replay_program.proofs.line_input.feed.Goals as goal
use Rattle.slp_text.specs.Ascii.{line_feed}

lengthen_fails : (w v : Option (List ℕ)) (read out line : List ℕ) (p : Progress) (done xs tail piece : List ℕ) (e : RunFault) → FeedGoesOn w v (read ++ done) out line p → piece ≡ done ++ (xs ++ tail) → HasNoLf xs → (e ≡ NoMemory) ⊎ ((e ≡ fault.Line (p.number + 1)) × (longest_line < length (line ++ xs))) → FeedFails w v (read ++ piece) out e
lengthen_fails w v read out line p done xs tail piece e t is free (inl h) =
    subst (λ (f : RunFault). FeedFails w v (read ++ piece) out f) (sym h) (FeedGoesOn-memory w v read out line p done (xs ++ tail) piece t is)
lengthen_fails w v read out line p done xs tail piece e t is free (inr h) =
    subst (λ (f : RunFault). FeedFails w v (read ++ piece) out f) (sym h.0) (FeedGoesOn-long w v read out line p done xs tail piece t is free h.1)

join_rest : (done front back : List ℕ) → done ++ (front ++ line_feed ∷ back) ≡ (done ++ (front ++ line_feed ∷ [])) ++ back
join_rest done front back = simp append_assoc

pub loop-front-init : goal.loop-front-init
loop-front-init g c = record {
  kept = c.requires.short;
  counted = omega arith;
  stood = λ read out s. ([], refl, ([], Appends-none _, rw (append-nil read, append-nil out) s));
}

pub returns-in_err-lengthen-clause-fed : goal.returns-in_err-lengthen-clause-fed
returns-in_err-lengthen-clause-fed g c = λ read out s.
    let t = c.loop-front.invariant.stood read out s in
    let p = err_from_is_err_and c.from_residual.result c.from_residual.ensures.1 in
    rw (p.1, p.2) (lengthen_fails _ _ read out _ _ t.0 c.in-Some.front.now (line_feed ∷ c.in-Some.back.now) c.args.piece.now _ t.2 (rw (← c.in-Some.ensures.0) t.1) c.in-Some.ensures.1 c.in_err-lengthen.ensures.err)

pub returns-in_err-turn-clause-fed : goal.returns-in_err-turn-clause-fed
returns-in_err-turn-clause-fed g c = λ read out s.
    let t = c.loop-front.invariant.stood read out s in
    let p = err_from_is_err_and c.from_residual-in_err-turn.result c.from_residual-in_err-turn.ensures.1 in
    let whole : c.as_slice.result.now ≡ c.loop-front.line.items ++ c.in-Some.front.now = c.as_slice.ensures.value ∙ c.in_ok-lengthen.ensures.items in
    rw (p.1, p.2) (FeedGoesOn-turn_fails _ _ _ read out _ c.loop-front.progress t.0 c.in-Some.front.now c.in-Some.back.now c.args.piece.now _ t.2 (rw (← c.in-Some.ensures.0) t.1) c.in-Some.ensures.1 c.in_ok-lengthen.ensures.short (fails_as _ c.loop-front.progress _ _ _ _ (rw (← whole) c.in_err-turn.ensures)))

pub loop-front-preserved : goal.loop-front-preserved
loop-front-preserved g c =
    let turned = c.in_ok-turn.ensures in
    let whole : c.as_slice.result.now ≡ c.loop-front.line.items ++ c.in-Some.front.now = c.as_slice.ensures.value ∙ c.in_ok-lengthen.ensures.items in
    record {
      kept = omega (arith, c.clear.ensures.len);
      counted = omega (arith, turned.2.number, c.loop-front.invariant.counted, simp length-append at (ap length c.in-Some.ensures.0));
      stood = λ read out s.
          let t = c.loop-front.invariant.stood read out s in (
            t.0 ++ (c.in-Some.front.now ++ line_feed ∷ []),
            t.1 ∙ rw (c.in-Some.ensures.0) (join_rest t.0 c.in-Some.front.now c.in-Some.back.now),
            rw c.clear.ensures.items (FeedGoesOn-turned _ _ _ read out _ c.loop-front.progress t.0 c.in-Some.front.now turned.0 c.turn.new.self t.2 c.in-Some.ensures.1 c.in_ok-lengthen.ensures.short turned.1 (rw (← whole) turned.2)),
          );
    }

pub returns-in_err-lengthen-2-clause-fed : goal.returns-in_err-lengthen-2-clause-fed
returns-in_err-lengthen-2-clause-fed g c = λ read out s.
    let t = c.loop-front.invariant.stood read out s in
    let p = err_from_is_err_and c.from_residual-in_err-lengthen-2.result c.from_residual-in_err-lengthen-2.ensures.1 in
    rw (p.1, p.2) (lengthen_fails _ _ read out _ _ t.0 c.loop-front.rest.now [] c.args.piece.now _ t.2 (rw (append-nil c.loop-front.rest.now) t.1) c.in_default.ensures c.in_err-lengthen-2.ensures.err)

pub returns-clause-fed : goal.returns-clause-fed
returns-clause-fed g c = λ read out s.
    let t = c.loop-front.invariant.stood read out s in
    rw c.in_ok-lengthen-2.ensures.items (FeedGoesOn-rest _ _ read out _ c.loop-front.progress t.0 c.loop-front.rest.now c.args.piece.now t.2 t.1 c.in_default.ensures c.in_ok-lengthen-2.ensures.short)
