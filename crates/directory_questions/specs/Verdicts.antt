-- The verdict on a message at a history, and which histories come about.
use Rattle.std.specs.Prelude.{◌≡◌, ℕ, ◌≤◌, [], ◌∷◌, Option, Some, None}
use Rattle.registry_core.specs.Entries.{Entries}
use Rattle.slp_messages.specs.Messages.{IsMessage}
use Rattle.slp_messages.specs.declared.message.Message.{Message}
use Rattle.directory_judge.specs.History.{History, Event, Put, Set, Remove, Withdraw, Sweep, Reload, clock, now}
use Rattle.directory_judge.specs.Judgements.{Grounds, Judgement, Accepts, Ignores, Waits, Denies, judgement}
use Rattle.directory_judge.specs.Meaning.{AreLive, rules}
use Rattle.directory_judge.specs.declared.reason.Because.{Because}
use Rattle.directory_questions.specs.Calls.{Opening, Standpoint, standpoint}

-- what a message is judged on from a standpoint, where these are the live entries
abbrev pub grounds : Standpoint → Entries → Grounds
grounds from live = record {
  rules = rules from.opening.rules from.history;
  site = from.opening.site;
  live = live;
  now = now from.history from.moment;
  asker = from.asker;
}

-- the verdict from a standpoint on what is sent
pub record IsVerdict (from : Standpoint) (sent : Message) (v : Judgement) : Type 0 where
  pub live : Entries
  pub are_live : AreLive from.history from.moment live
  pub is : v ≡ judgement (grounds from live) sent

-- the event is what some message makes, sent at some moment
pub record IsAccepted (o : Opening) (h : History) (c : Event) : Type 0 where
  pub moment : ℕ
  pub asker : ℕ
  pub sent : Message
  pub sound : IsMessage sent
  pub because : Because
  pub verdict : IsVerdict (standpoint o h moment asker) sent (Accepts c because)

-- a registration, an update or a withdrawal is what some message makes; sweeps and reloads are the operator's
abbrev pub IsGrounded : Opening → History → Event → Type 0
IsGrounded o h c = elim c.act [
  | Put p ↦ IsAccepted o h c
  | Set s ↦ IsAccepted o h c
  | Remove r ↦ IsAccepted o h c
  | Withdraw w ↦ IsAccepted o h c
  | Sweep ↦ Unit {0}
  | Reload rs ↦ Unit {0}
]

-- time does not go back, and each change comes about by what was before it
abbrev pub IsLegal : Opening → History → Type 0
IsLegal o [] = Unit {0}
IsLegal o (c ∷ h) = (clock h ≤ c.moment) × IsGrounded o h c × IsLegal o h

-- the change that comes of a judgement, if one does
abbrev pub change_in : Judgement → Option Event
change_in (Accepts c because) = Some c
change_in Ignores = None
change_in Waits = None
change_in (Denies code because) = None

-- a history followed by a change, if there is one
abbrev pub history_with : Option Event → History → History
history_with None h = h
history_with (Some c) h = c ∷ h
