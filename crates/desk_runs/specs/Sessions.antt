-- What a desk did, message after message, in the words of its contract.
use Rattle.std.specs.Prelude.{◌≡◌, ℕ, Bool, true, false, List, [], ◌∷◌, Option, Some, None, Result, Ok, Err}
use Rattle.slp_text.specs.declared.faults.NoMemory.{NoMemory}
use Rattle.directory_judge.specs.History.{History}
use Rattle.directory_questions.specs.Answers.{is_change_of}
use Rattle.directory_questions.specs.Bytes.{AreBytes}
use Rattle.directory_questions.specs.Calls.{Opening, Call}
use Rattle.slp_replies.specs.declared.answer.Answer.{Answer}
use Rattle.slp_replies.specs.declared.answer.Sent.{Sent}
use Rattle.history_log.specs.Pasts.{IsPast}
use Rattle.directory_runs.specs.Turns.{Telling, Turn}
use Rattle.published_view.specs.Traces.{Trace, last_at}
use Rattle.slp_loops.specs.Desks.{DeskSteps, Standing}
use Rattle.loop_log.specs.Logging.{Logs}
use Rattle.slp_sockets.specs.Serving.{Ticks}

-- a call of `serve`
pub record DeskStep (M L : Type 0) : Type 0 where
  pub before : Standing M L
  pub asker : ℕ
  pub message : List ℕ
  pub limit : ℕ
  pub outcome : Result Sent NoMemory
  pub answer : Answer
  pub after : Standing M L

module _ {M L : Type 0} where
  -- what a desk was asked by all of these
  abbrev pub asked_by : List (DeskStep M L) → Trace
  asked_by [] = []
  asked_by (s ∷ ss) = s.after.view

  -- all that it saw is a past
  abbrev pub HasSeen : List (DeskStep M L) → History → Type 0
  HasSeen ss h = IsPast (last_at (asked_by ss)) h

  -- the messages of one desk, the newest first: each begins where the one before ended, by the clause of `serve`
  abbrev pub AreDeskSteps : Opening → Ticks M → Logs L → List (DeskStep M L) → Type 0
  AreDeskSteps o may writes [] = Unit {0}
  AreDeskSteps o may writes (s ∷ ss) = AreBytes s.message × (s.before.view ≡ asked_by ss) × DeskSteps o may writes s.before s.asker s.message s.limit s.outcome s.answer s.after × AreDeskSteps o may writes ss

  abbrev pub call_at : DeskStep M L → ℕ → Call
  call_at s moment = record { own = s.before.own; moment = moment; asker = s.asker; bytes = s.message; limit = s.limit }

  -- the reply and the line of a question, where memory was found
  abbrev pub telling_of : DeskStep M L → ℕ → Bool → Result Sent NoMemory → Option Telling
  telling_of s moment true r = None
  telling_of s moment false (Err e) = None
  telling_of s moment false (Ok what) = Some (record { call = call_at s moment; what = what; reply = s.answer.bytes.items; line = s.answer.audit.items })

  -- a turn is the message's: it left the desk to have seen just this, and the desk sent just this
  pub record IsTurnOf (may : Ticks M) (s : DeskStep M L) (t : Turn) : Type 0 where
    pub moment : ℕ
    pub ticked : may s.before.moments moment s.after.moments
    pub seen : t.seen ≡ last_at s.after.view
    pub told : t.told ≡ telling_of s moment (is_change_of s.message) s.outcome

  abbrev pub AreTurnsOf : Opening → Ticks M → List (DeskStep M L) → List Turn → Type 0
  AreTurnsOf o may [] ts = ts ≡ []
  AreTurnsOf o may (s ∷ ss) [] = ⊥
  AreTurnsOf o may (s ∷ ss) (t ∷ ts) = IsTurnOf may s t × AreTurnsOf o may ss ts
