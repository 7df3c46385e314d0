-- What users are promised is kept throughout a run.
use Rattle.std.proofs.Common.{◌≡◌, [], ◌∷◌, length, Option, Some, None, sym, ap, subst, ◌∙◌, arith}
use Rattle.std.specs.Prelude.{◌↔◌}
use Rattle.std.proofs.lemmas.Option.{none-some, same_Some}
use Rattle.slp_messages.specs.declared.message.Message.{Message}
use Rattle.registry_core.specs.Entries.{Entries}
use Rattle.directory_judge.specs.History.{History, Event}
use Rattle.directory_judge.specs.Judgements.{Judgement, Accepts, Ignores, Waits, Denies}
use Rattle.directory_judge.specs.declared.reason.Because.{Because}
use Rattle.directory_questions.specs.Answers.{Sense, Settled, Lists, Describes, Names, Changes, IsAnswer, IsAnswerTo, sense_of}
use Rattle.directory_questions.specs.Calls.{Opening, Call, standpoint_of}
use Rattle.directory_questions.specs.Outcomes.{Outcome}
use Rattle.directory_questions.specs.Verdicts.{IsVerdict, change_in, grounds, history_with}
use Rattle.directory_state.proofs.Folds.{AreLive-unique}
use Rattle.directory_runs.specs.Allowing.{IsAllowed, IsAllowedOn}
use Rattle.directory_runs.specs.Promises.{IsAllowedBy, IsKept, IsKeptThroughout}
use Rattle.directory_runs.specs.Runs.{Happening, Publish, Sweep, Reload, Entry, Look, Tell, Learn, Refusal, Run, IsRun, May, world}
use Rattle.directory_runs.proofs.Allowing.{accepted_is_allowed, allowed_is_accepted}
use Rattle.directory_runs.proofs.Denials.{denials_are_kept}
use Rattle.directory_runs.proofs.Kept.{kept_run, legal_run}
use Rattle.directory_runs.proofs.WholeReplies.{holds_exactly}

-- ---- the change that is published

published_is : (change : Option Event) (h : History) (event : Event) → history_with change h ≡ event ∷ h → change ≡ Some event
published_is None h event same = let k = ap length same in absurd (omega (arith, k))
published_is (Some c) h event same = cc

accepts_event : (v : Judgement) (event : Event) → change_in v ≡ Some event → (because : Because) × (v ≡ Accepts event because)
accepts_event (Accepts c because) event is = (because, ap (λ e. Accepts e because) (same_Some c event is))
accepts_event Ignores event is = absurd (none-some event is)
accepts_event Waits event is = absurd (none-some event is)
accepts_event (Denies code because) event is = absurd (none-some event is)

module _ (o : Opening) (h : History) (c : Call) where
  change_allowed : (sent : Message) (v : Judgement) (event : Event) → IsVerdict (standpoint_of o h c) sent v → change_in v ≡ Some event → IsAllowed (standpoint_of o h c) sent event
  change_allowed sent v event verdict is =
      let k = accepts_event v event is in
      record {
        live = verdict.live;
        are_live = verdict.are_live;
        allowed = accepted_is_allowed (grounds (standpoint_of o h c) verdict.live) sent event k.0 (sym verdict.is ∙ k.1);
      }

  allowed_change : (sent : Message) (v : Judgement) (event : Event) → IsVerdict (standpoint_of o h c) sent v → IsAllowed (standpoint_of o h c) sent event → change_in v ≡ Some event
  allowed_change sent v event verdict may =
      let from = standpoint_of o h c in
      let same : may.live ≡ verdict.live = AreLive-unique h c.moment may.live verdict.live may.are_live verdict.are_live in
      let k = allowed_is_accepted (grounds from verdict.live) sent event (subst (λ (live : Entries). IsAllowedOn (grounds from live) sent event) same may.allowed) in
      ap change_in (verdict.is ∙ k.1)

  changes_by : (sense : Sense) (r : Outcome) (change : Option Event) (event : Event) → IsAnswerTo o h c sense r change → (change ≡ Some event) ↔ IsAllowedBy (standpoint_of o h c) sense event
  changes_by (Settled it) r change event is = ((λ e. none-some event (sym is.1 ∙ e)), (λ a. absurd a))
  changes_by (Lists head q) r change event is = ((λ e. none-some event (sym is.1 ∙ e)), (λ a. absurd a))
  changes_by (Describes head q) r change event is = ((λ e. none-some event (sym is.1 ∙ e)), (λ a. absurd a))
  changes_by (Names head q) r change event is = ((λ e. none-some event (sym is.1 ∙ e)), (λ a. absurd a))
  changes_by (Changes head sent) r change event is = (
    (λ e. change_allowed sent is.0 event is.1 (sym is.3 ∙ e)),
    (λ a. is.3 ∙ allowed_change sent is.0 event is.1 a),
  )

  changes : (r : Outcome) (change : Option Event) (event : Event) → IsAnswer o h c r change → (change ≡ Some event) ↔ IsAllowedBy (standpoint_of o h c) (sense_of o.site c) event
  unfolding IsAnswer
  changes r change event is = changes_by (sense_of o.site c) r change event is

-- ---- what happens

kept_here : (o : Opening) (run : Run) (e : Happening) → IsRun o run → May o (world run) e → IsKept o (world run) e
kept_here o run (Entry loop c r) is may =
    let h = (world run).published in
    record {
      legal = legal_run o run is;
      known = (kept_run o run is).seen loop;
      exact = holds_exactly o h c r None may.2;
      denials = denials_are_kept o h c r None may.2;
    }
kept_here o run (Publish c r change) is may =
    let h = (world run).published in
    record {
      legal = legal_run o run is;
      exact = λ event.
          let k = changes o h c r change event may.2 in
          ((λ same. k.0 (published_is change h event same)), (λ allowed. ap (λ (x : Option Event). history_with x h) (k.1 allowed)));
      kept = λ none. ap (λ (x : Option Event). history_with x h) none;
      denials = denials_are_kept o h c r change may.2;
    }
kept_here o run (Sweep m) is may = tt
kept_here o run (Reload m rs) is may = tt
kept_here o run (Look loop) is may = tt
kept_here o run Tell is may = tt
kept_here o run (Learn loop n) is may = tt
kept_here o run Refusal is may = tt

pub kept_throughout : (o : Opening) (run : Run) → IsRun o run → IsKeptThroughout o run
kept_throughout o [] is = tt
kept_throughout o (e ∷ run) is = (kept_here o run e is.1 is.0, kept_throughout o run is.1)
