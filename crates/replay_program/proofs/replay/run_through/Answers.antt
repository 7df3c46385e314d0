use Rattle.std.proofs.Common.{arith, ◌≤◌, ◌+◌, ◌*◌, ◌++◌, [], ℕ, List, take, length}
use Rattle.std.proofs.lemmas.Grind.{common_steps}
use Rattle.std.proofs.lemmas.Result.{err_from_is_err_and}
use Rattle.replay_program.specs.Reads.{StandsAfter}
use Rattle.replay_program.proofs.Transfers.{Keeps-same, Appends-none, Appends-append, Appends-keeps, Consumes-none, Consumes-append}
use Rattle.replay_program.proofs.ScriptReads.{StandsAfter-new, Consumes-keeps, Consumes-end, Gives-ends, Gives-failed, Gives-read}
use Rattle.replay_program.proofs.replay.run_through.Goals as goal
use Rattle.replay_program.proofs.replay.run_through.Goals.{in-Ok+in_ok-feed-in-Ok, in-Err+else-ne}

grown : (p q t n : ℕ) → q ≤ p + n → n ≤ 65536 → p ≤ t * 65536 → q ≤ (t + 1) * 65536
grown p q t n more few low = omega arith

short_piece : (n : ℕ) (buf : List ℕ) → length buf ≤ 65536 → length (take n buf) ≤ 65536
short_piece n buf h = grind (arith, common_steps)

pub loop-turn-init : goal.loop-turn-init
loop-turn-init g c = record {
  kept = omega (arith, c.new-line.ensures.len);
  counted = omega (arith, StandsAfter-new c.args.progress.now c.requires.begun);
  stood = ([], [], Consumes-none _ _ (Keeps-same _), Appends-none _, rw c.new-line.ensures.items c.requires.begun);
}

pub returns-in-Ok-eq0 : goal.returns-in-Ok-eq0
returns-in-Ok-eq0 g c =
    let s = c.loop-turn.invariant.stood in
    let b = c.in-Ok-eq0.ensures.bytes in
    let zero = c.in-Ok-eq0.field-0-is in
    let there = c.read.auto.buf in
    let t : StandsAfter s.0 s.1 c.as_slice.result.now c.loop-turn.progress = rw c.as_slice.ensures.value s.4 in
    Gives-ends _ _ _ _ _ s.0 s.1 _ _ c.finish.result (Consumes-end _ _ _ s.0 _ _ s.2 b.0 c.in-Ok-eq0.field-0-test) (b.1 c.in-Ok-eq0.field-0-test (omega arith)) (Appends-keeps _ _ _ s.1 s.3 c.flush.ensures.bytes) t (c.finish.ensures s.0 s.1 t)

pub returns-in_err-feed-in-Ok : goal.returns-in_err-feed-in-Ok
returns-in_err-feed-in-Ok g c =
    let s = c.loop-turn.invariant.stood in
    let p = err_from_is_err_and c.from_residual.result c.from_residual.ensures.1 in
    let f = c.in_err-feed-in-Ok.ensures.fed s.0 s.1 s.4 in
    let n = c.in-Ok.ensures.bytes.0 in
    let short = short_piece c.in-Ok.n c.read.new.buf (omega arith) in
    rw (p.1, p.2) (Gives-failed _ _ _ _ _ s.0 _ s.1 _ _ _ (Consumes-append _ _ _ s.0 _ s.2 c.in-Ok.ensures.bytes.0) short (Appends-keeps _ _ _ s.1 s.3 c.flush.ensures.bytes) s.4 f)

pub returns-then-ne : goal.returns-then-ne
returns-then-ne g c =
    let s = c.loop-turn.invariant.stood in
    Gives-read _ _ _ _ s.0 s.1 _ _ (Consumes-keeps _ _ _ s.0 s.2 c.in-Err.ensures.bytes) (Appends-keeps _ _ _ s.1 s.3 c.flush.ensures.bytes) s.4

pub loop-turn-preserved : goal.loop-turn-preserved
loop-turn-preserved g c =
    let s = c.loop-turn.invariant.stood in
    let written = Appends-keeps _ _ _ s.1 s.3 c.flush.ensures.bytes in
    elim c.match-read.branch [
      | in-Ok+in_ok-feed-in-Ok w ↦
          let f = w.in_ok-feed-in-Ok.ensures.fed s.0 s.1 s.4 in
          record {
            kept = rw w.line-is (w.in_ok-feed-in-Ok.ensures.short);
            counted = rw w.progress-is (grown _ _ c.loop-turn.turn _ w.in_ok-feed-in-Ok.ensures.number (short_piece w.in-Ok.n c.read.new.buf (omega arith)) c.loop-turn.invariant.counted);
            stood = (s.0 ++ take w.in-Ok.n c.read.new.buf, s.1 ++ f.0, Consumes-append _ _ _ s.0 _ s.2 w.in-Ok.ensures.bytes.0, rw w.writer-is (Appends-append _ _ _ s.1 f.0 written f.1), rw (w.line-is, w.progress-is) f.2);
          }
      | in-Err+else-ne w ↦
          record {
            kept = rw w.line-is c.loop-turn.invariant.kept;
            counted = rw w.progress-is (grown c.loop-turn.progress.number c.loop-turn.progress.number c.loop-turn.turn 0 (omega arith) (omega arith) c.loop-turn.invariant.counted);
            stood = (s.0, s.1, Consumes-keeps _ _ _ s.0 s.2 w.in-Err.ensures.bytes, rw w.writer-is written, rw (w.line-is, w.progress-is) s.4);
          }
    ]

pub returns : goal.returns
returns g c =
    let s = c.loop-turn.invariant.stood in
    Gives-read _ _ _ _ s.0 s.1 _ _ s.2 s.3 s.4
