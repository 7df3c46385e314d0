-- The rule of the published directory, and what its steps tell.
use Rattle.std.specs.Borrow.{Bor}
use Rattle.std.specs.Prelude.{◌≡◌, false, List, ◌∷◌, Option, Result, Ok, Err}
use Rattle.logbook.specs.Pages.{Book}
use Rattle.directory_judge.specs.Contents.{content}
use Rattle.directory_judge.specs.History.{Event, History}
use Rattle.directory_questions.specs.Calls.{Opening, Call, call_in}
use Rattle.directory_questions.specs.Requests.{function_in, is_change_function, IsUnheard}
use Rattle.directory_questions.specs.Verdicts.{IsLegal}
use Rattle.directory_questions.specs.declared.call.Call as code
use Rattle.directory_questions.specs.declared.heard.Heard.{Heard}
use Rattle.directory_state.specs.Folds.{StandsFor}
use Rattle.directory_state.specs.State.{state_after}
use Rattle.history_log.specs.Events.{history_in}
use Rattle.published_view.specs.Traces.{Trace, Wrote, last_at, HaveRuns, IsAsked, IsWritten}
use Rattle.published_view.specs.declared.copies.PublishedCopy.{PublishedCopy}
use Rattle.published_view.specs.declared.copies.Step.{Step}

-- the history that a copy stands for
abbrev pub history_of : PublishedCopy → History
history_of k = history_in k.trail.seen.log

-- the directory is what the events of its history leave, and these are legal
pub record IsAfter (book : Book) (o : Opening) (k : PublishedCopy) : Type 0 where
  pub book_is : k.trail.seen.book ≡ book
  pub legal : IsLegal o (history_of k)
  pub left : k.directory ≡ state_after o (history_of k)

-- the step makes one event more, and its change stands for it
pub record NextOf (book : Book) (o : Opening) (call : Option Call) (h : History) (s : Step) : Type 0 where
  pub event : Event
  pub longer : history_in s.trail.seen.log ≡ event ∷ h
  pub book_is : s.trail.seen.book ≡ book
  pub legal : IsLegal o (event ∷ h)
  pub written : IsWritten o call h (event ∷ h)
  pub stands : StandsFor h (content s.change) event

-- The directory stands for a legal history, and all that threads did is one run that published this history.
abbrev pub IsPublished : Book → Opening → PublishedCopy → List Trace → Type 0
IsPublished book o k traces = IsAfter book o k × HaveRuns o (history_of k) traces

-- the history of y was seen, and a call asked at it, or none
abbrev pub SeesAll : Book → Opening → Option Call → Trace → PublishedCopy → PublishedCopy → Trace → Type 0
SeesAll book o call v x y w = IsAsked o v call w × (last_at w ≡ history_of y) × IsAfter book o y

-- y is shown, and nothing is written
abbrev pub Shows : Book → Opening → Trace → PublishedCopy → PublishedCopy → Trace → Type 0
Shows book o v x y w = (w ≡ v) × IsAfter book o y

-- the history of y was left, for a call or none
abbrev pub Leaves : Book → Opening → Option Call → Trace → PublishedCopy → PublishedCopy → Trace → Type 0
Leaves book o call v x y w = (w ≡ Wrote (history_of y) call ∷ v) × IsAfter book o y

-- what a call asks by which a question is heard, or nothing is
abbrev pub call_heard : Result (Bor Heard) (Bor code.Call) → Call
call_heard (Ok heard) = call_in heard.now.call.now
call_heard (Err unheard) = call_in unheard.now

abbrev pub IsQuestion : Result (Bor Heard) (Bor code.Call) → Type 0
IsQuestion (Ok heard) = is_change_function (function_in heard.now.request) ≡ false
IsQuestion (Err unheard) = IsUnheard unheard.now.bytes.now
