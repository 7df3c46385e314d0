-- The event that is picked for a change is the one that its bytes ask for.
use Rattle.std.proofs.Common.{◌≡◌, ℕ, true, List, ◌∷◌, Option, Some, None, refl, sym, ap, ◌∙◌, subst}
use Rattle.std.specs.Prelude.{unwrap_or}
use Rattle.directory_judge.specs.Contents.{content}
use Rattle.directory_judge.specs.History.{Event, History}
use Rattle.directory_judge.specs.declared.change.Change.{Change}
use Rattle.directory_questions.specs.Answers.{is_change_of, IsAnswer}
use Rattle.directory_questions.specs.Bytes.{AreBytes}
use Rattle.directory_questions.specs.Calls.{Opening}
use Rattle.directory_questions.specs.Verdicts.{IsLegal, history_with}
use Rattle.directory_state.specs.Events.{call_anywhere}
use Rattle.directory_state.specs.Folds.{StandsFor}
use Rattle.directory_state.specs.State.{state_after}
use Rattle.directory_state.proofs.AskedEvents.{event_is_asked}
use Rattle.directory_state.proofs.LegalHistories.{Fold-events}
use Rattle.slp_answer.specs.Answers.{Acknowledges}
use Rattle.slp_replies.specs.declared.answer.Sent.{Sent}
use Rattle.directory_runs.specs.Changes.{IsChanged, sweep_at}
use Rattle.directory_runs.specs.Runs.{Publish}
use Rattle.published_view.specs.Changes.{event_or_sweep}
use Rattle.published_view.specs.Traces.{IsWritten}

module _ {o : Opening} {h : History} {m asker : ℕ} {bytes : List ℕ} {what : Sent} {change : Option Change} {reply line : List ℕ} (told : Acknowledges o h m asker bytes what change reply line) where
  module _ (legal : IsLegal o h) (c : Change) (is : change ≡ Some c) where
    made : Acknowledges o h m asker bytes what (Some c) reply line
    made = subst (λ (x : Option Change). Acknowledges o h m asker bytes what x reply line) is told

    it_is : event_or_sweep o h m asker bytes ≡ made.handed.0
    it_is =
        let asked = event_is_asked o h (state_after o h) (Fold-events o h legal) (call_anywhere m asker bytes) made.outcome made.event (made.is 0 0) in
        ap (λ (x : Option Event). unwrap_or x (sweep_at m)) (sym asked ∙ made.handed.1)

    pub handed_out : IsLegal o (event_or_sweep o h m asker bytes ∷ h) × StandsFor h (content c) (event_or_sweep o h m asker bytes)
    handed_out = (
      subst (λ (e : Event). IsLegal o (e ∷ h)) (sym it_is) made.handed.3,
      subst (λ (e : Event). StandsFor h (content c) e) (sym it_is) made.handed.2,
    )

    pub written_out : AreBytes bytes → is_change_of bytes ≡ true → IsWritten o (Some (call_anywhere m asker bytes)) h (event_or_sweep o h m asker bytes ∷ h)
    written_out are asks = (
      Publish (call_anywhere m asker bytes) made.outcome made.event,
      (made.outcome, made.event, refl),
      λ w at. (
        (are, asks, subst (λ (x : History). IsAnswer o x (call_anywhere m asker bytes) made.outcome made.event) (sym at) (made.is 0 0)),
        ap (history_with made.event) at ∙ (ap (λ (x : Option Event). history_with x h) made.handed.1 ∙ ap (λ (e : Event). e ∷ h) (sym it_is)),
      ),
    )

    pub changed_so : (after : History) → after ≡ event_or_sweep o h m asker bytes ∷ h → IsChanged o h m asker bytes what reply line after
    changed_so after left = record {
      outcome = made.outcome;
      event = made.event;
      is = made.is;
      told = made.told;
      left = left ∙ (ap (λ (e : Event). e ∷ h) it_is ∙ ap (λ (x : Option Event). history_with x h) (sym made.handed.1));
    }

  pub unchanged : change ≡ None → IsChanged o h m asker bytes what reply line h
  unchanged none =
      let kept : Acknowledges o h m asker bytes what None reply line = subst (λ (x : Option Change). Acknowledges o h m asker bytes what x reply line) none told in
      record {
        outcome = kept.outcome;
        event = kept.event;
        is = kept.is;
        told = kept.told;
        left = ap (λ (x : Option Event). history_with x h) (sym kept.handed);
      }
