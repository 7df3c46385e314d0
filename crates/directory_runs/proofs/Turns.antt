-- What contracts say of calls may happen in a run, and all of it is one.
use Rattle.std.proofs.Common.{◌≡◌, ℕ, ◌<◌, true, false, List, [], ◌∷◌, refl, sym, ap, subst, ◌∙◌, arith, Option, Some, None}
use Rattle.std.specs.Prelude.{nat_lt}
use Rattle.std.proofs.lemmas.Bool.Decides.{nat_tests}
use Rattle.slp_headers.specs.Headers.{heading_of}
use Rattle.access_rules.specs.Deciding.{SiteRules}
use Rattle.directory_judge.specs.History.{Event, History, now}
use Rattle.directory_judge.specs.Meaning.{rules}
use Rattle.directory_questions.specs.Answers.{is_change_of, IsAnswer}
use Rattle.directory_questions.specs.Bytes.{AreBytes}
use Rattle.directory_questions.specs.Calls.{Opening, Call}
use Rattle.directory_questions.specs.Outcomes.{Outcome}
use Rattle.directory_questions.specs.Verdicts.{history_with}
use Rattle.slp_answer.specs.Answers.{Replies}
use Rattle.slp_replies.specs.Tellings.{Tells}
use Rattle.slp_replies.specs.declared.answer.Sent.{Sent}
use Rattle.history_log.specs.Pasts.{IsPast}
use Rattle.directory_runs.specs.Changes.{IsChanged, reload_at, sweep_at}
use Rattle.directory_runs.specs.Runs.{Publish, Sweep, Reload, Entry, World, Run, IsRun, May, happened, world}
use Rattle.directory_runs.specs.Served.{Visit, AreVisits, AreWrites, IsLoopOf, IsTold, last_seen}
use Rattle.directory_runs.specs.Turns.{Telling, Turn, Deed, Changes, Sweeps, Reloads, IsTelling, last_turn, AreTurns, IsDone, AreDone, IsToldAs, IsToldBy, AreVisitsOf, AreWritesOf, IsRunOf}
use Rattle.directory_runs.proofs.Merging.{there_is}
use Rattle.directory_runs.proofs.Promises.{kept_throughout}

-- ---- one call

pub replied_may : (o : Opening) (w : World) (loop : ℕ) (h : History) (c : Call) (what : Sent) (reply line : List ℕ) → AreBytes c.bytes → is_change_of c.bytes ≡ false → w.published ≡ h → Replies o h c what reply line
    → (r : Outcome) × May o w (Entry loop c r) × Tells (rules o.rules h) c.asker (heading_of c.bytes) r what reply line
replied_may o w loop h c what reply line bytes still at is = (is.outcome, (bytes, still, subst (λ (x : History). IsAnswer o x c is.outcome None) (sym at) is.is), is.told)

pub changed_may : (o : Opening) (w : World) (h : History) (c : Call) (what : Sent) (reply line : List ℕ) (after : History) → AreBytes c.bytes → is_change_of c.bytes ≡ true → w.published ≡ h
    → IsChanged o h c.moment c.asker c.bytes what reply line after
    → (r : Outcome) × (change : Option Event) × May o w (Publish c r change) × ((happened w (Publish c r change)).published ≡ after) × Tells (rules o.rules h) c.asker (heading_of c.bytes) r what reply line
changed_may o w h c what reply line after bytes asks at is = (
  is.outcome,
  is.event,
  (bytes, asks, subst (λ (x : History). IsAnswer o x c is.outcome is.event) (sym at) (is.is c.own c.limit)),
  ap (history_with is.event) at ∙ sym is.left,
  is.told,
)

-- ---- a loop

told_by : (o : Opening) (h : History) (t : Option Telling) → IsTelling o h t → (u : Option (Call × Outcome)) × IsTold o h u × IsToldBy o h t u
told_by o h None is = (None, tt, refl)
told_by o h (Some t) is = (Some (t.call, is.2.outcome), (is.0, is.1, is.2.is), (is.2.outcome, refl, is.2.told))

visits_by : (o : Opening) (ts : List Turn) → AreTurns o ts → (vs : List Visit) × AreVisits o vs × (last_seen vs ≡ last_turn ts) × AreVisitsOf o ts vs
visits_by o [] are = ([], tt, refl, refl)
visits_by o (t ∷ ts) are =
    let below = visits_by o ts are.2 in
    let u = told_by o t.seen t.told are.0 in (
      record { at = t.seen; told = u.0 } ∷ below.0,
      (u.1, subst (λ (h : History). IsPast h t.seen) (sym below.2) are.1, below.1),
      refl,
      (refl, u.2, below.3),
    )

-- ---- the writer

swept : (o : Opening) (h before : History) (m : ℕ) → before ≡ h → sweep_at (now before m) ∷ before ≡ sweep_at (now h m) ∷ h
swept o h before m at = ap (λ (x : History). sweep_at (now x m) ∷ x) at

reloaded : (o : Opening) (h before : History) (m : ℕ) (rs : SiteRules) → before ≡ h → reload_at (now before m) rs ∷ before ≡ reload_at (now h m) rs ∷ h
reloaded o h before m rs at = ap (λ (x : History). reload_at (now x m) rs ∷ x) at

record Wrote (o : Opening) (deeds : List Deed) (h : History) (es : Run) : Type 0 where
  is : IsRun o es
  are : AreWrites es
  leaves : (world es).published ≡ h
  written : AreWritesOf o deeds es

one_done : (o : Opening) (d : Deed) (ds : List Deed) (h before : History) (es : Run) → IsDone o before d h → Wrote o ds before es → (run : Run) × Wrote o (d ∷ ds) h run
one_done o (Changes t) ds h before es is below =
    let m = changed_may o (world es) before t.call t.what t.reply t.line h is.0 is.1 below.leaves is.2 in (
      Publish t.call m.0 m.1 ∷ es,
      record {
        is = (m.2, below.is);
        are = (refl, below.are);
        leaves = m.3;
        written = ((m.0, m.1, refl, subst (λ (x : History). IsToldAs o x t m.0) (sym below.leaves) m.4), below.written);
      },
    )
one_done o (Sweeps m) ds h before es is below =
    (Sweep m ∷ es, record { is = (tt, below.is); are = (refl, below.are); leaves = swept o before (world es).published m below.leaves ∙ sym is; written = (refl, below.written) })
one_done o (Reloads m rs) ds h before es is below =
    (Reload m rs ∷ es, record { is = (tt, below.is); are = (refl, below.are); leaves = reloaded o before (world es).published m rs below.leaves ∙ sym is; written = (refl, below.written) })

all_done : (o : Opening) (ds : List Deed) (h : History) → AreDone o ds h → (run : Run) × Wrote o ds h run
all_done o [] h is = ([], record { is = tt; are = tt; leaves = sym is; written = refl })
all_done o (d ∷ ds) h is =
    let below = all_done o ds is.0 is.2 in
    one_done o d ds h is.0 below.0 is.1 below.1

-- ---- together

module _ (o : Opening) (deeds : List Deed) (h : History) (done : AreDone o deeds h) (number : ℕ) (loops : ℕ → List Turn) (each : (i : ℕ) → i < number → AreTurns o (loops i) × IsPast (last_turn (loops i)) h) where
  abbrev AreOf : ℕ → List Visit → Type 0
  AreOf i vs = AreVisits o vs × (last_seen vs ≡ last_turn (loops i)) × AreVisitsOf o (loops i) vs

  visited : (i : ℕ) → (vs : List Visit) × (i < number → AreOf i vs)
  visited i = elim (nat_lt i number) as (λ b. nat_lt i number ≡ b → (vs : List Visit) × (i < number → AreOf i vs)) [
    | true ↦ λ yes.
        let lt : i < number = grind (arith, nat_tests) in
        let v = visits_by o (loops i) (each i lt).0 in
        (v.0, λ _. (v.1, v.2, v.3))
    | false ↦ λ no. ([], λ lt. absurd (grind (arith, nat_tests, lt)))
  ] refl

  pub is_a_run : (run : Run) × IsRunOf o deeds number loops h run
  is_a_run =
      let wrote = all_done o deeds h done in
      let m = there_is o wrote.0 wrote.1.is wrote.1.are (λ i. (visited i).0) number (λ i lt. loop_of i lt wrote.0 wrote.1.leaves) in (
        m.0,
        record {
          is = m.1.is;
          leaves = m.1.published ∙ wrote.1.leaves;
          written = subst (λ (es : Run). AreWritesOf o deeds es) (sym m.1.written) wrote.1.written;
          told = λ i lt. subst (λ (vs : List Visit). AreVisitsOf o (loops i) vs) (sym (m.1.told i lt)) ((visited i).1 lt).2;
          kept = kept_throughout o m.0 m.1.is;
        },
      )
    where
      loop_of : (i : ℕ) → i < number → (es : Run) → (world es).published ≡ h → IsLoopOf o (world es).published (visited i).0
      loop_of i lt es leaves = record {
        visits = ((visited i).1 lt).0;
        past = subst (λ (x : History). IsPast x (world es).published) (sym ((visited i).1 lt).1) (subst (λ (x : History). IsPast (last_turn (loops i)) x) (sym leaves) (each i lt).1);
      }
