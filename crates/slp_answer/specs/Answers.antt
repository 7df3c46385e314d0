-- What is answered to bytes: the reply, and the line that tells what came of them.
use Rattle.std.specs.Prelude.{ℕ, List, Option, None}
use Rattle.slp_headers.specs.Headers.{heading_in, heading_of}
use Rattle.directory_judge.specs.History.{History, Event}
use Rattle.directory_judge.specs.Meaning.{rules}
use Rattle.directory_judge.specs.declared.change.Change.{Change}
use Rattle.directory_questions.specs.Answers.{sense_of_question, IsAnswer, IsAnswerTo}
use Rattle.directory_questions.specs.Calls.{Opening, Call, call_in}
use Rattle.directory_questions.specs.Outcomes.{Outcome}
use Rattle.directory_questions.specs.Verdicts.{IsLegal, history_with}
use Rattle.directory_questions.specs.declared.question.Question.{Question}
use Rattle.directory_state.specs.Folds.{Fold, HandsOut}
use Rattle.directory_state.specs.State.{State}
use Rattle.slp_replies.specs.declared.answer.Sent.{Sent}
use Rattle.slp_replies.specs.declared.replies.Reply.{Reply}
use Rattle.slp_replies.specs.Tellings.{Tells, TellsOf}

-- what was answered to a question that is heard
abbrev pub IsQuestionAnswered : Opening → History → Reply → Question → Sent → List ℕ → List ℕ → Type 0
IsQuestionAnswered o h to posed what reply line =
    (r : Outcome) × IsAnswerTo o h (call_in to.heard.now.call.now) (sense_of_question o.site to.heard.now.call.now.own (heading_in to.heard.now.header) posed) r None × TellsOf to r what reply line

-- what was answered to bytes that change nothing
pub record Replies (o : Opening) (h : History) (c : Call) (what : Sent) (reply line : List ℕ) : Type 0 where
  pub outcome : Outcome
  pub is : IsAnswer o h c outcome None
  pub told : Tells (rules o.rules h) c.asker (heading_of c.bytes) outcome what reply line

-- what was answered to bytes, whatever loop they came to, and the change that is handed out
pub record Acknowledges (o : Opening) (h : History) (m asker : ℕ) (bytes : List ℕ) (what : Sent) (change : Option Change) (reply line : List ℕ) : Type 0 where
  pub outcome : Outcome
  pub event : Option Event
  pub is : (own limit : ℕ)
      → IsAnswer o h (record { own = own; moment = m; asker = asker; bytes = bytes; limit = limit }) outcome event
  pub told : Tells (rules o.rules h) asker (heading_of bytes) outcome what reply line
  pub handed : HandsOut o h change event

-- what was answered to bytes, and the state after them: that of the history with their change
pub record Steps (o : Opening) (h : History) (c : Call) (what : Sent) (reply line : List ℕ) (after : State) : Type 0 where
  pub outcome : Outcome
  pub event : Option Event
  pub is : IsAnswer o h c outcome event
  pub told : Tells (rules o.rules h) c.asker (heading_of c.bytes) outcome what reply line
  pub legal : IsLegal o (history_with event h)
  pub fold : Fold o (history_with event h) after
