-- What a desk does with a message.
use Rattle.std.specs.Prelude.{◌≡◌, ◌⊎◌, ◌<◌, ℕ, Bool, true, false, List, [], length, slice_get, Option, Result, Ok, Err, Some, None, IfOk, OnErr, OnOk}
use Rattle.std.specs.Borrow.{Bor}
use Rattle.std.specs.Option.{option_map}
use Rattle.slp_text.specs.declared.faults.NoMemory.{NoMemory}
use Rattle.slp_headers.specs.Headers.{heading_of}
use Rattle.access_rules.specs.Deciding.{no_rules}
use Rattle.directory_judge.specs.History.{History}
use Rattle.directory_questions.specs.Answers.{is_change_of}
use Rattle.directory_questions.specs.Calls.{Opening, Call}
use Rattle.directory_questions.specs.Outcomes.{refusal_outcome}
use Rattle.directory_questions.specs.Verdicts.{IsLegal}
use Rattle.directory_questions.specs.declared.heard.Heard.{Heard}
use Rattle.slp_answer.specs.Answers.{Replies}
use Rattle.slp_replies.specs.Tellings.{line_of}
use Rattle.slp_replies.specs.declared.answer.Answer.{Answer}
use Rattle.slp_replies.specs.declared.answer.Sent.{Sent}
use Rattle.history_log.specs.Pasts.{IsPast}
use Rattle.directory_runs.specs.Changes.{IsChanged}
use Rattle.published_view.specs.declared.fault.ViewFault.{ViewFault}
use Rattle.published_view.specs.Traces.{Trace, last_at, IsAsked}
use Rattle.loop_log.specs.Logging.{Logging, Logs, Lined}
use Rattle.slp_sockets.specs.Serving.{Ticks}

-- a desk between two messages: the address to which they come, its clock, what it was asked and where, the newest first, whether it sees what its last change published, and its lines
pub record Standing (M L : Type 0) : Type 0 where
  pub own : ℕ
  pub moments : M
  pub view : Trace
  pub told : Bool
  pub lines : Logging L

-- what begins with these bytes asks for a change, by the function in its header: a registration, or a withdrawal
abbrev pub AsksForChange : List ℕ → Type 0
AsksForChange bytes = (slice_get bytes 1 ≡ Some 3) ⊎ (slice_get bytes 1 ≡ Some 4)

-- the messages that may take long: those of over 128 bytes, and those about attributes
abbrev pub MayLast : List ℕ → Type 0
MayLast message = (128 < length message) ⊎ (slice_get message 1 ≡ Some 6)

-- the line of a message: that of its answer, or of a refusal where no memory was found
abbrev pub told_line : ℕ → List ℕ → Result Sent NoMemory → Answer → List ℕ
told_line asker message (Ok _) answer = answer.audit.items
told_line asker message (Err _) answer = line_of no_rules asker (heading_of message) (refusal_outcome (heading_of message))

-- what a desk answers of what its view or its writer told
abbrev pub IsOutcomeOf : Result Sent ViewFault → Result Sent NoMemory → Type 0
IsOutcomeOf (Ok what) outcome = outcome ≡ Ok what
IsOutcomeOf (Err e) outcome = (wanting : NoMemory) × (outcome ≡ Err wanting)

-- the line that is told then, of what was heard
abbrev pub line_told : Option Heard → Result Sent ViewFault → Answer → List ℕ
line_told heard (Ok what) answer = answer.audit.items
line_told None (Err e) answer = []
line_told (Some heard) (Err e) answer = line_of no_rules heard.call.now.asker (heading_of heard.call.now.bytes.now) (refusal_outcome (heading_of heard.call.now.bytes.now))

abbrev pub heard_lent : Option (Bor Heard) → Option Heard
heard_lent = option_map (λ (b : Bor Heard). b.now)

-- bytes that ask for a change were answered at a legal history, and what is seen goes on from the history after them, where that was told
pub record IsServedChange (o : Opening) (c : Call) (what : Sent) (answer : Answer) (is_told : Bool) (seen : History) : Type 0 where
  pub before : History
  pub after : History
  pub legal : IsLegal o after
  pub changed : IsChanged o before c.moment c.asker c.bytes what answer.bytes.items answer.audit.items after
  pub told : is_told ≡ true → IsPast after seen

module _ {M L : Type 0} (o : Opening) (may : Ticks M) (writes : Logs L) where
  -- At a moment that its clock may answer, it answers a question at the published history that it then sees, and a change at some history. It forgets nothing that it saw, and the line of the message, whole, waits behind those that do, or is out with them.
  pub record DeskSteps (before : Standing M L) (asker : ℕ) (message : List ℕ) (limit : ℕ) (outcome : Result Sent NoMemory) (answer : Answer) (after : Standing M L) : Type 0 where
    pub moment : ℕ
    pub ticked : may before.moments moment after.moments
    pub later : IsPast (last_at before.view) (last_at after.view)
    pub asked : is_change_of message ≡ false → OnOk outcome (IsAsked o before.view (Some (record { own = before.own; moment = moment; asker = asker; bytes = message; limit = limit })) after.view)
    pub replied : is_change_of message ≡ false → IfOk outcome (λ what. Replies o (last_at after.view) (record { own = before.own; moment = moment; asker = asker; bytes = message; limit = limit }) what answer.bytes.items answer.audit.items)
    pub untold : is_change_of message ≡ false → OnErr outcome ((after.view ≡ before.view) ⊎ IsAsked o before.view (Some (record { own = before.own; moment = moment; asker = asker; bytes = message; limit = limit })) after.view)
    pub looked : is_change_of message ≡ true → (after.view ≡ before.view) ⊎ IsAsked o before.view None after.view
    pub changed : is_change_of message ≡ true → IfOk outcome (λ what. IsServedChange o (record { own = before.own; moment = moment; asker = asker; bytes = message; limit = limit }) what answer after.told (last_at after.view))
    pub unasked : is_change_of message ≡ false → after.told ≡ before.told
    pub refused : OnErr outcome (after.told ≡ before.told)
    pub own : after.own ≡ before.own
    pub lined : Lined writes before.lines (told_line asker message outcome answer) after.lines
