-- What desks did are turns, and so a run.
use Rattle.std.proofs.Common.{◌≡◌, ℕ, ◌<◌, Bool, true, false, List, [], ◌∷◌, refl, sym, ap, subst, ◌∙◌, arith, Option, Some, None, Result, Ok, Err}
use Rattle.std.specs.Prelude.{nat_lt, IfOk}
use Rattle.std.proofs.lemmas.Bool.Decides.{nat_tests}
use Rattle.slp_text.specs.declared.faults.NoMemory.{NoMemory}
use Rattle.directory_judge.specs.History.{History}
use Rattle.directory_questions.specs.Answers.{is_change_of}
use Rattle.directory_questions.specs.Bytes.{AreBytes}
use Rattle.directory_questions.specs.Calls.{Opening, Call}
use Rattle.slp_answer.specs.Answers.{Replies}
use Rattle.slp_replies.specs.declared.answer.Sent.{Sent}
use Rattle.history_log.specs.Pasts.{IsPast}
use Rattle.directory_runs.specs.Runs.{Run}
use Rattle.directory_runs.specs.Turns.{Telling, Turn, Deed, AreDone, AreTurns, IsTelling, IsRunOf, last_turn}
use Rattle.directory_runs.proofs.Turns.{is_a_run}
use Rattle.published_view.specs.Traces.{Trace, last_at}
use Rattle.slp_loops.specs.Desks.{DeskSteps, Standing}
use Rattle.loop_log.specs.Logging.{Logs}
use Rattle.slp_sockets.specs.Serving.{Ticks}
use Rattle.desk_runs.specs.Sessions.{DeskStep, asked_by, call_at, telling_of, AreDeskSteps, AreTurnsOf, HasSeen, IsTurnOf}

module _ {M L : Type 0} (o : Opening) (may : Ticks M) (writes : Logs L) where
  is_telling : (s : DeskStep M L) (moment : ℕ) (b : Bool) (r : Result Sent NoMemory) → is_change_of s.message ≡ b → AreBytes s.message
      → (is_change_of s.message ≡ false → IfOk r (λ what. Replies o (last_at s.after.view) (call_at s moment) what s.answer.bytes.items s.answer.audit.items)) → IsTelling o (last_at s.after.view) (telling_of s moment b r)
  is_telling s moment true r is bytes replied = tt
  is_telling s moment false (Err e) is bytes replied = tt
  is_telling s moment false (Ok what) is bytes replied = (bytes, is, replied is)

  turns_by : (ss : List (DeskStep M L)) → AreDeskSteps o may writes ss → (ts : List Turn) × AreTurns o ts × (last_turn ts ≡ last_at (asked_by ss)) × AreTurnsOf o may ss ts
  turns_by [] are = ([], tt, refl, refl)
  turns_by (s ∷ ss) are =
      let below = turns_by ss are.3 in
      let d = are.2 in
      let t : Turn = record { seen = last_at s.after.view; told = telling_of s d.moment (is_change_of s.message) s.outcome } in
      let later : IsPast (last_turn below.0) (last_at s.after.view) = subst (λ (h : History). IsPast h (last_at s.after.view)) (ap (λ (v : Trace). last_at v) are.1 ∙ sym below.2) d.later in (
        t ∷ below.0,
        (is_telling s d.moment (is_change_of s.message) s.outcome refl are.0 d.replied, later, below.1),
        refl,
        (record { moment = d.moment; ticked = d.ticked; seen = refl; told = refl }, below.3),
      )

  module _ (deeds : List Deed) (h : History) (done : AreDone o deeds h) (number : ℕ) (desks : ℕ → List (DeskStep M L)) (each : (i : ℕ) → i < number → AreDeskSteps o may writes (desks i) × HasSeen (desks i) h) where
    abbrev AreOf : ℕ → List Turn → Type 0
    AreOf i ts = AreTurns o ts × (last_turn ts ≡ last_at (asked_by (desks i))) × AreTurnsOf o may (desks i) ts

    turned : (i : ℕ) → (ts : List Turn) × (i < number → AreOf i ts)
    turned i = elim (nat_lt i number) as (λ b. nat_lt i number ≡ b → (ts : List Turn) × (i < number → AreOf i ts)) [
      | true ↦ λ yes.
          let lt : i < number = grind (arith, nat_tests) in
          let v = turns_by (desks i) (each i lt).0 in
          (v.0, λ _. (v.1, v.2, v.3))
      | false ↦ λ no. ([], λ lt. absurd (grind (arith, nat_tests, lt)))
    ] refl

    pub desks_ran : (loops : ℕ → List Turn) × ((i : ℕ) → i < number → AreTurnsOf o may (desks i) (loops i)) × (run : Run) × IsRunOf o deeds number loops h run
    desks_ran =
        let r = is_a_run o deeds h done number (λ i. (turned i).0) (λ i lt. (((turned i).1 lt).0, subst (λ (x : History). IsPast x h) (sym ((turned i).1 lt).1) (each i lt).1)) in
        (λ i. (turned i).0, λ i lt. ((turned i).1 lt).2, r.0, r.1)
