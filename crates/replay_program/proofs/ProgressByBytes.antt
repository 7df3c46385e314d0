-- What bytes more do to where a run stands.
use Rattle.std.proofs.Common.{◌≡◌, ◌≢◌, ℕ, ◌+◌, ◌<◌, ◌≤◌, false, List, [], ◌∷◌, ◌++◌, length, Option, Some, None, refl, sym, ap, ◌∙◌, inl, arith, append_assoc, length-append}
use Rattle.std.specs.Prelude.{◌==◌}
use Rattle.std.proofs.lemmas.List.{append-nil}
use Rattle.std.proofs.lemmas.Bool.{ne_eqb}
use Rattle.std.proofs.lemmas.Grind.{flat_map-append}
use borrow.Author.Tests.{lt-ltb}
use Rattle.slp_script.specs.Lines.{Line, before_first_line, lines_of, line_bytes, HasNoLf}
use Rattle.slp_script.specs.Commands.{order_of, longest_line}
use Rattle.slp_script.proofs.Words.{too_long-block}
use Rattle.slp_script.proofs.Fronts.{lines_of-last, lines_of-line_bytes, lines_of-append, All-append}
use Rattle.replay_program.specs.Worlds.{Run, RunsUpTo, RunsPart}
use Rattle.replay_program.specs.Turns.{TurnsTo}
use Rattle.replay_program.specs.Reads.{StandsAfter}
use Rattle.replay_program.specs.declared.progress.OpenBlock.{OpenBlock}
use Rattle.replay_program.specs.declared.progress.Progress.{Progress}
use Rattle.replay_program.specs.declared.session.Session.{Session}
use Rattle.replay_program.proofs.ProgressByLine.{IsAtFault, Stands-turn, Stands-fault, Stands-open, Stands-closed}
use Rattle.slp_text.specs.Ascii.{line_feed}

-- more of the line that is begun
pub StandsAfter-more : (read out line : List ℕ) (p : Progress) (xs : List ℕ) → StandsAfter read out line p → HasNoLf xs → length (line ++ xs) ≤ longest_line → StandsAfter (read ++ xs) out (line ++ xs) p
StandsAfter-more read out line p xs s free short = record {
  lines = s.lines;
  text = rw (s.text, append_assoc) refl;
  each = s.each;
  unended = All-append (λ x. x ≢ 10) line xs s.unended free;
  short = short;
  stands = s.stands;
}

-- the line's end
pub StandsAfter-turn : (read out line : List ℕ) (p : Progress) (now : List ℕ) (q : Progress) → StandsAfter read out line p → TurnsTo p line now q → StandsAfter (read ++ line_feed ∷ []) (out ++ now) [] q
StandsAfter-turn read out line p now q s t = record {
  lines = s.lines ++ line ∷ [];
  text = rw (s.text, flat_map-append line_bytes s.lines (line ∷ []), append_assoc, append-nil, append-nil) refl;
  each = All-append HasNoLf s.lines (line ∷ []) s.each (s.unended, tt);
  unended = tt;
  short = omega arith;
  stands = Stands-turn s.lines out p line now q s.stands t;
}

lines_of-read : (read out line : List ℕ) (p : Progress) (more : List ℕ) (s : StandsAfter read out line p) → lines_of (read ++ more) ≡ s.lines ++ lines_of (line ++ more)
lines_of-read read out line p more s = rw (s.text, append_assoc) (lines_of-append s.lines (line ++ more) s.each)

-- the commands so far, whatever else is read
pub StandsAfter-part : (read out line : List ℕ) (p : Progress) (more : List ℕ) → StandsAfter read out line p → RunsPart (read ++ more) out
StandsAfter-part read out line p more s = (
  s.stands.commands,
  s.stands.before,
  s.stands.unended ++ lines_of (line ++ more),
  lines_of-read read out line p more s ∙ rw (s.stands.all, append_assoc) refl,
  s.stands.reads,
  (s.stands.world, s.stands.prints),
)

-- the line that ends here is at fault
pub StandsAfter-fault : (read out line : List ℕ) (p : Progress) (more : List ℕ) → StandsAfter read out line p → IsAtFault p.block p.session line → RunsUpTo (read ++ line_feed ∷ more) (p.number + 1) out
StandsAfter-fault read out line p more s f =
    let r = Stands-fault s.lines out p line (lines_of more) s.stands f in
    let e : lines_of (read ++ line_feed ∷ more) ≡ s.lines ++ line ∷ lines_of more = lines_of-read read out line p (line_feed ∷ more) s ∙ ap (λ v. s.lines ++ v) (lines_of-line_bytes line more s.unended) in
    (r.0, r.1, r.2, rw e r.3)

before_first_line-first : (x : ℕ) (ls : List Line) → (tail : List ℕ) × (rest : List Line) × (before_first_line x ls ≡ (x ∷ tail) ∷ rest)
before_first_line-first x [] = ([], [], refl)
before_first_line-first x (l ∷ ls) = (l, ls, refl)

lines_of-first : (x : ℕ) (more : List ℕ) → x ≢ 10 → (tail : List ℕ) × (rest : List Line) × (lines_of (x ∷ more) ≡ (x ∷ tail) ∷ rest)
lines_of-first x more h =
    let off : (x == line_feed) ≡ false = ne_eqb x line_feed h in
    rw off (before_first_line-first x (lines_of more))

lines_of-begun : (x : ℕ) (l more : List ℕ) → HasNoLf (x ∷ l) → (tail : List ℕ) × (rest : List Line) × (lines_of (x ∷ (l ++ more)) ≡ (x ∷ (l ++ tail)) ∷ rest)
lines_of-begun x [] more h = lines_of-first x more h.0
lines_of-begun x (y ∷ l) more h =
    let r = lines_of-begun y l more h.1 in
    let off : (x == line_feed) ≡ false = ne_eqb x line_feed h.0 in
    (r.0, r.1, rw (off, r.2) refl)

too_long-order : (l : List ℕ) → longest_line < length l → order_of l ≡ None
unfolding order_of
too_long-order l h = rw (lt-ltb _ _ h) refl

too_long-fault : (block : Option OpenBlock) (s : Session) (l : List ℕ) → longest_line < length l → IsAtFault block s l
too_long-fault None s l h = inl (too_long-order l h, too_long-block l h)
too_long-fault (Some b) s l h = λ k. absurd (omega (arith, k.0))

lines_of-within : (a more : List ℕ) → HasNoLf a → 0 < length a → (tail : List ℕ) × (rest : List Line) × (lines_of (a ++ more) ≡ (a ++ tail) ∷ rest)
lines_of-within [] more h some = absurd (omega arith)
lines_of-within (x ∷ l) more h some = lines_of-begun x l more h

-- the line that is begun is too long, whatever else is read
pub StandsAfter-long : (read out line : List ℕ) (p : Progress) (xs more : List ℕ) → StandsAfter read out line p → HasNoLf xs → longest_line < length (line ++ xs) → RunsUpTo ((read ++ xs) ++ more) (p.number + 1) out
StandsAfter-long read out line p xs more s free long =
    let first = lines_of-within (line ++ xs) more (All-append (λ x. x ≢ 10) line xs s.unended free) (omega arith) in
    let whole = line ++ xs ++ first.0 in
    let size : longest_line < length whole = rw length-append (omega arith) in
    let r = Stands-fault s.lines out p whole first.1 s.stands (too_long-fault p.block p.session whole size) in
    let e : lines_of ((read ++ xs) ++ more) ≡ s.lines ++ whole ∷ first.1 = rw append_assoc (lines_of-read read out line p (xs ++ more) s ∙ ap (λ v. s.lines ++ v) (ap lines_of (sym (append_assoc line xs more)) ∙ first.2)) in
    (r.0, r.1, r.2, rw e r.3)

ends-empty : (read out : List ℕ) (p : Progress) (s : StandsAfter read out [] p) → lines_of read ≡ s.lines
ends-empty read out p s = ap lines_of (sym (append-nil read)) ∙ (lines_of-read read out [] p [] s ∙ append-nil s.lines)

ends-last : (read out line : List ℕ) (p : Progress) (s : StandsAfter read out line p) → 0 < length line → lines_of read ≡ s.lines ++ line ∷ []
ends-last read out [] p s some = absurd (omega arith)
ends-last read out (x ∷ l) p s some =
    ap lines_of (sym (append-nil read)) ∙ (lines_of-read read out (x ∷ l) p [] s ∙ ap (λ v. s.lines ++ v) (ap lines_of (append-nil (x ∷ l)) ∙ lines_of-last (x ∷ l) s.unended))

-- all is read, and the run stands outside a block
pub StandsAfter-closed : (read out : List ℕ) (p : Progress) → StandsAfter read out [] p → p.block ≡ None → Run read out
StandsAfter-closed read out p s e =
    let r = Stands-closed s.lines out p s.stands e in
    (r.0, rw (ends-empty read out p s) r.1, r.2)

-- all is read, and the run stands within a block
pub StandsAfter-open : (read out : List ℕ) (p : Progress) (b : OpenBlock) → StandsAfter read out [] p → p.block ≡ Some b → RunsUpTo read b.begun out
StandsAfter-open read out p b s e =
    let r = Stands-open s.lines out p b s.stands e in
    (r.0, r.1, r.2, rw (ends-empty read out p s) r.3)

-- all is read, and the last line was taken without its LF
pub StandsAfter-closed_last : (read out line : List ℕ) (p : Progress) (now : List ℕ) (q : Progress) → StandsAfter read out line p → 0 < length line → TurnsTo p line now q → q.block ≡ None → Run read (out ++ now)
StandsAfter-closed_last read out line p now q s some t e =
    let r = Stands-closed (s.lines ++ line ∷ []) (out ++ now) q (Stands-turn s.lines out p line now q s.stands t) e in
    (r.0, rw (ends-last read out line p s some) r.1, r.2)

pub StandsAfter-open_last : (read out line : List ℕ) (p : Progress) (now : List ℕ) (q : Progress) (b : OpenBlock) → StandsAfter read out line p → 0 < length line → TurnsTo p line now q → q.block ≡ Some b → RunsUpTo read b.begun (out ++ now)
StandsAfter-open_last read out line p now q b s some t e =
    let r = Stands-open (s.lines ++ line ∷ []) (out ++ now) q b (Stands-turn s.lines out p line now q s.stands t) e in
    (r.0, r.1, r.2, rw (ends-last read out line p s some) r.3)

pub StandsAfter-fault_last : (read out line : List ℕ) (p : Progress) → StandsAfter read out line p → 0 < length line → IsAtFault p.block p.session line → RunsUpTo read (p.number + 1) out
StandsAfter-fault_last read out line p s some f =
    let r = Stands-fault s.lines out p line [] s.stands f in
    (r.0, r.1, r.2, rw (ends-last read out line p s some) r.3)
