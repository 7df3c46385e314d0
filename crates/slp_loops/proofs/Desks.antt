-- What a desk answers, by what its view or its writer told.
use Rattle.std.proofs.Common.{◌≡◌, ℕ, true, false, List, Some, None, Result, Ok, Err, sym, ap, ◌∙◌, subst}
use Rattle.std.proofs.lemmas.Bool.{true≢false}
use Rattle.std.specs.Prelude.{◌⊎◌, IfOk, OnErr, OnOk}
use Rattle.slp_text.specs.declared.faults.NoMemory.{NoMemory}
use Rattle.directory_questions.specs.Answers.{is_change_of}
use Rattle.directory_questions.specs.Calls.{Opening, Call}
use Rattle.directory_questions.specs.Requests.{IsUnheard}
use Rattle.directory_questions.specs.declared.heard.Heard.{Heard}
use Rattle.slp_answer.specs.Answers.{Replies}
use Rattle.slp_replies.specs.declared.answer.Answer.{Answer}
use Rattle.slp_replies.specs.declared.answer.Sent.{Sent}
use Rattle.slp_replies.proofs.RefusalLines.{unheard_is}
use Rattle.history_log.specs.Pasts.{IsPast}
use Rattle.published_view.specs.Traces.{last_at, IsAsked}
use Rattle.published_view.specs.declared.fault.ViewFault.{ViewFault}
use Rattle.slp_loops.specs.Desks.{line_told, told_line, DeskSteps, IsOutcomeOf, IsServedChange, Standing}
use Rattle.loop_log.specs.Logging.{Lined, Logs}
use Rattle.slp_sockets.specs.Serving.{Ticks}

module _ (told : Result Sent ViewFault) (outcome : Result Sent NoMemory) where
  pub on_ok : (P : Type 0) → IsOutcomeOf told outcome → OnOk told P → OnOk outcome P
  on_ok P is holds = elim told as (λ r. IsOutcomeOf r outcome → OnOk r P → OnOk outcome P) [
    | Ok what ↦ λ same p. subst (λ (r : Result Sent NoMemory). OnOk r P) (sym same) p
    | Err e ↦ λ same p. subst (λ (r : Result Sent NoMemory). OnOk r P) (sym same.1) tt
  ] is holds

  pub on_err : (P : Type 0) → IsOutcomeOf told outcome → OnErr told P → OnErr outcome P
  on_err P is holds = elim told as (λ r. IsOutcomeOf r outcome → OnErr r P → OnErr outcome P) [
    | Ok what ↦ λ same p. subst (λ (r : Result Sent NoMemory). OnErr r P) (sym same) tt
    | Err e ↦ λ same p. subst (λ (r : Result Sent NoMemory). OnErr r P) (sym same.1) p
  ] is holds

  pub if_ok : (P : Sent → Type 0) → IsOutcomeOf told outcome → IfOk told P → IfOk outcome P
  if_ok P is holds = elim told as (λ r. IsOutcomeOf r outcome → IfOk r P → IfOk outcome P) [
    | Ok what ↦ λ same p. subst (λ (r : Result Sent NoMemory). IfOk r P) (sym same) p
    | Err e ↦ λ same p. subst (λ (r : Result Sent NoMemory). IfOk r P) (sym same.1) tt
  ] is holds

  module _ (answer : Answer) where
    -- the line of what is heard
    pub line_of_heard : (heard : Heard) → IsOutcomeOf told outcome → line_told (Some heard) told answer ≡ told_line heard.call.now.asker heard.call.now.bytes.now outcome answer
    line_of_heard heard is = elim told as (λ r. IsOutcomeOf r outcome → line_told (Some heard) r answer ≡ told_line heard.call.now.asker heard.call.now.bytes.now outcome answer) [
      | Ok what ↦ λ same. sym (ap (λ (r : Result Sent NoMemory). told_line heard.call.now.asker heard.call.now.bytes.now r answer) same)
      | Err e ↦ λ same. sym (ap (λ (r : Result Sent NoMemory). told_line heard.call.now.asker heard.call.now.bytes.now r answer) same.1)
    ] is

    -- there is none of what is unheard
    pub line_of_unheard : (asker : ℕ) (message : List ℕ) → IsUnheard message → IsOutcomeOf told outcome → line_told None told answer ≡ told_line asker message outcome answer
    line_of_unheard asker message unheard is = elim told as (λ r. IsOutcomeOf r outcome → line_told None r answer ≡ told_line asker message outcome answer) [
      | Ok what ↦ λ same. sym (ap (λ (r : Result Sent NoMemory). told_line asker message r answer) same)
      | Err e ↦ λ same. (unheard_is asker message unheard).0 ∙ sym (ap (λ (r : Result Sent NoMemory). told_line asker message r answer) same.1)
    ] is

module _ {M L : Type 0} (o : Opening) (may : Ticks M) (writes : Logs L) (before after : Standing M L) (asker : ℕ) (message : List ℕ) (limit moment : ℕ) (told : Result Sent ViewFault) (outcome : Result Sent NoMemory) (answer : Answer) where
  abbrev call : Call
  call = record { own = before.own; moment = moment; asker = asker; bytes = message; limit = limit }

  -- a question was answered, or what is unheard passed over
  pub question_steps : is_change_of message ≡ false → may before.moments moment after.moments → IsOutcomeOf told outcome → IsPast (last_at before.view) (last_at after.view)
      → OnOk told (IsAsked o before.view (Some call) after.view) → IfOk told (λ what. Replies o (last_at after.view) call what answer.bytes.items answer.audit.items)
      → OnErr told ((after.view ≡ before.view) ⊎ IsAsked o before.view (Some call) after.view) → after.told ≡ before.told → after.own ≡ before.own → Lined writes before.lines (told_line asker message outcome answer) after.lines
      → DeskSteps o may writes before asker message limit outcome answer after
  question_steps still ticked is later asked replied untold same own lined = record {
    moment = moment;
    ticked = ticked;
    later = later;
    asked = λ _. on_ok told outcome (IsAsked o before.view (Some call) after.view) is asked;
    replied = λ _. if_ok told outcome (λ what. Replies o (last_at after.view) call what answer.bytes.items answer.audit.items) is replied;
    untold = λ _. on_err told outcome ((after.view ≡ before.view) ⊎ IsAsked o before.view (Some call) after.view) is untold;
    looked = λ asks. absurd (true≢false (sym asks ∙ still));
    changed = λ asks. absurd (true≢false (sym asks ∙ still));
    unasked = λ _. same;
    refused = on_err told outcome (after.told ≡ before.told) is (any_err told (after.told ≡ before.told) same);
    own = own;
    lined = lined;
  }
    where
      any_err : (r : Result Sent ViewFault) (P : Type 0) → P → OnErr r P
      any_err (Ok what) P holds = tt
      any_err (Err e) P holds = holds

  -- a change was asked for
  pub change_steps : is_change_of message ≡ true → may before.moments moment after.moments → IsOutcomeOf told outcome → IsPast (last_at before.view) (last_at after.view)
      → (after.view ≡ before.view) ⊎ IsAsked o before.view None after.view → IfOk told (λ what. IsServedChange o call what answer after.told (last_at after.view))
      → OnErr told (after.told ≡ before.told) → after.own ≡ before.own → Lined writes before.lines (told_line asker message outcome answer) after.lines
      → DeskSteps o may writes before asker message limit outcome answer after
  change_steps asks ticked is later looked served refused own lined = record {
    moment = moment;
    ticked = ticked;
    later = later;
    asked = λ still. absurd (true≢false (sym asks ∙ still));
    replied = λ still. absurd (true≢false (sym asks ∙ still));
    untold = λ still. absurd (true≢false (sym asks ∙ still));
    looked = λ _. looked;
    changed = λ _. if_ok told outcome (λ what. IsServedChange o call what answer after.told (last_at after.view)) is served;
    unasked = λ still. absurd (true≢false (sym asks ∙ still));
    refused = on_err told outcome (after.told ≡ before.told) is refused;
    own = own;
    lined = lined;
  }
