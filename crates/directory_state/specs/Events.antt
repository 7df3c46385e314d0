-- The event that bytes bring about, as a function of the state that they come to.
use Rattle.std.specs.Prelude.{ℕ, max, List, Option, None}
use Rattle.registry_core.specs.Entries.{outlives, passing_entries}
use Rattle.directory_judge.specs.History.{Event}
use Rattle.directory_judge.specs.Judgements.{Grounds, judgement}
use Rattle.directory_questions.specs.Answers.{Sense, Settled, Lists, Describes, Names, Changes, sense_of}
use Rattle.directory_questions.specs.Calls.{Call}
use Rattle.directory_questions.specs.Verdicts.{change_in}
use Rattle.directory_state.specs.State.{State}

-- what a message is judged on in a state
abbrev pub grounds_in : State → ℕ → ℕ → Grounds
grounds_in s m asker = record { rules = s.rules; site = s.site; live = passing_entries (outlives (max m s.clock)) s.entries; now = max m s.clock; asker = asker }

-- the event that a sense brings about: only what asks for a change brings one about
abbrev pub event_of_sense : State → ℕ → ℕ → Sense → Option Event
event_of_sense s m asker (Settled it) = None
event_of_sense s m asker (Lists head q) = None
event_of_sense s m asker (Describes head q) = None
event_of_sense s m asker (Names head q) = None
event_of_sense s m asker (Changes head sent) = change_in (judgement (grounds_in s m asker) sent)

-- bytes that came at a moment, to whatever address: what asks for a change looks at none
abbrev pub call_anywhere : ℕ → ℕ → List ℕ → Call
call_anywhere m asker bytes = record { own = 0; moment = m; asker = asker; bytes = bytes; limit = 0 }

-- the event that bytes bring about in a state
unfoldable pub event_asked : State → ℕ → ℕ → List ℕ → Option Event
event_asked s m asker bytes = event_of_sense s m asker (sense_of s.site (call_anywhere m asker bytes))
