-- What may happen between a writer and many loops, and the world after it.
use Rattle.std.specs.Prelude.{◌≡◌, ℕ, true, false, ◌==◌, if◌then◌else◌, List, [], ◌∷◌, Contains, Option, None}
use Rattle.access_rules.specs.Deciding.{SiteRules}
use Rattle.directory_judge.specs.History.{History, Event, Sweep as Swept, Reload as Reloaded, now}
use Rattle.directory_questions.specs.Answers.{is_change_of, IsAnswer}
use Rattle.directory_questions.specs.Bytes.{AreBytes}
use Rattle.directory_questions.specs.Calls.{Opening, Call}
use Rattle.directory_questions.specs.Outcomes.{Outcome}
use Rattle.directory_questions.specs.Verdicts.{history_with}
use Rattle.history_log.specs.Pasts.{longer}

-- a reply of a loop, with the history that it was given at
pub record Reply : Type 0 where
  pub loop : ℕ
  pub at : History
  pub call : Call
  pub outcome : Outcome

-- what is published, what each loop has seen, and the notes and the replies, the newest first
pub record World : Type 0 where
  pub published : History
  pub seen : ℕ → History
  pub notes : List History
  pub replies : List Reply

-- Things that happen. Each carries what comes of it.
pub data Happening : Type 0 where
  -- bytes are judged, and their change is published
  Publish : Call → Outcome → Option Event → Happening
  -- what has expired is dropped
  Sweep : ℕ → Happening
  -- other rules decide from now on
  Reload : ℕ → SiteRules → Happening
  -- a loop answers bytes
  Entry : ℕ → Call → Outcome → Happening
  -- a loop has no memory for its answer
  Look : ℕ → Happening
  -- a note is made of what is published
  Tell : Happening
  -- a loop learns a note
  Learn : ℕ → History → Happening
  -- something is refused
  Refusal : Happening

-- nothing has happened yet
abbrev pub beginning : World
beginning = record { published = []; seen = λ i. []; notes = []; replies = [] }

-- what one loop sees changes
abbrev pub shown : ℕ → History → (ℕ → History) → ℕ → History
shown i h seen j = if j == i then h else seen j

-- what one thing that happens makes of the world
abbrev pub happened : World → Happening → World
happened w (Publish c t change) = record w { published = history_with change w.published }
happened w (Sweep m) = record w { published = record { moment = now w.published m; act = Swept } ∷ w.published }
happened w (Reload m rs) = record w { published = record { moment = now w.published m; act = Reloaded rs } ∷ w.published }
happened w (Entry i c t) = record w {
  seen = shown i w.published w.seen;
  replies = record { loop = i; at = w.published; call = c; outcome = t } ∷ w.replies;
}
happened w (Look i) = record w { seen = shown i w.published w.seen }
happened w Tell = record w { notes = w.published ∷ w.notes }
happened w (Learn i n) = record w { seen = shown i (longer (w.seen i) n) w.seen }
happened w Refusal = w

-- it may happen: what comes of bytes is what is to be told of them at what is published, and a note was made
abbrev pub May : Opening → World → Happening → Type 0
May o w (Publish c t change) = AreBytes c.bytes × (is_change_of c.bytes ≡ true) × IsAnswer o w.published c t change
May o w (Sweep m) = Unit {0}
May o w (Reload m rs) = Unit {0}
May o w (Entry i c t) = AreBytes c.bytes × (is_change_of c.bytes ≡ false) × IsAnswer o w.published c t None
May o w (Look i) = Unit {0}
May o w Tell = Unit {0}
May o w (Learn i n) = Contains w.notes n
May o w Refusal = Unit {0}

-- a run, the newest first
abbrev pub Run : Type 0
Run = List Happening

-- the world after a run: what has happened, one thing after the other
abbrev pub world : Run → World
world [] = beginning
world (e ∷ es) = happened (world es) e

-- each may happen after those before it
abbrev pub IsRun : Opening → Run → Type 0
IsRun o [] = Unit {0}
IsRun o (e ∷ es) = May o (world es) e × IsRun o es
