-- What it is to serve messages one after the other.
use Rattle.std.specs.Prelude.{◌≡◌, ℕ, List, Result, MatchResult}
use Rattle.slp_headers.specs.Headers.{heading_of}
use Rattle.slp_text.specs.declared.faults.NoMemory.{NoMemory}
use Rattle.directory_questions.specs.Outcomes.{refusal_outcome}
use Rattle.slp_replies.specs.declared.answer.Answer.{Answer}
use Rattle.slp_replies.specs.declared.answer.Sent.{Sent}

-- the reply to a message that found no memory
abbrev pub refused_reply : List ℕ → List ℕ
refused_reply message = (refusal_outcome (heading_of message)).reply

-- what may come of one message: the server before, the asker, the message, the limit, the outcome, the answer and the server after
abbrev pub Steps : Type 0 → Type 1
Steps S = S → ℕ → List ℕ → ℕ → Result Sent NoMemory → Answer → S → Type 0

-- which servers may be left where one settled
abbrev pub Settles : Type 0 → Type 1
Settles S = S → S → Type 0

-- how a server serves
pub record Manner (S : Type 0) : Type 1 where
  pub steps : Steps S
  pub settles : Settles S
  -- what begins with these bytes may have to wait for others, so that it may be put aside
  pub may_wait : List ℕ → Type 0
  -- to serve this message may take long, so that those behind it may be put aside, and another loop may serve it
  pub may_last : List ℕ → Type 0

-- what a clock may answer: the clock before, the moment and the clock after
abbrev pub Ticks : Type 0 → Type 1
Ticks M = M → ℕ → M → Type 0

module _ {S : Type 0} (manner : Manner S) (asker limit : ℕ) where
  -- the bytes that go back for one served message: those of its answer, or of a refusal where no memory was found
  pub record IsServed (before : S) (message : List ℕ) (back : List ℕ) (after : S) : Type 0 where
    pub outcome : Result Sent NoMemory
    pub answer : Answer
    pub step : manner.steps before asker message limit outcome answer after
    pub given : MatchResult outcome (λ _. back ≡ answer.bytes.items) (λ _. back ≡ refused_reply message)
