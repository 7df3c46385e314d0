-- The calls of loops and of a writer, in the words of their contracts, and the run that these are together.
use Rattle.std.specs.Prelude.{◌≡◌, ℕ, ◌<◌, true, false, List, [], ◌∷◌, Option, Some, None}
use Rattle.slp_headers.specs.Headers.{heading_of}
use Rattle.access_rules.specs.Deciding.{SiteRules}
use Rattle.directory_judge.specs.History.{Event, History, now}
use Rattle.directory_judge.specs.Meaning.{rules}
use Rattle.directory_questions.specs.Answers.{is_change_of}
use Rattle.directory_questions.specs.Bytes.{AreBytes}
use Rattle.directory_questions.specs.Calls.{Opening, Call}
use Rattle.directory_questions.specs.Outcomes.{Outcome}
use Rattle.slp_answer.specs.Answers.{Replies}
use Rattle.slp_replies.specs.Tellings.{Tells}
use Rattle.slp_replies.specs.declared.answer.Sent.{Sent}
use Rattle.history_log.specs.Pasts.{IsPast}
use Rattle.directory_runs.specs.Changes.{IsChanged, reload_at, sweep_at}
use Rattle.directory_runs.specs.Promises.{IsKeptThroughout}
use Rattle.directory_runs.specs.Runs.{Happening, Publish, Sweep, Reload, Run, IsRun, world}
use Rattle.directory_runs.specs.Served.{Visit, visits_of, writes_of}

-- a call, with what was sent, and the bytes of the reply and of the line
pub record Telling : Type 0 where
  pub call : Call
  pub what : Sent
  pub reply : List ℕ
  pub line : List ℕ

-- ---- a loop

-- what a call of a loop left it to have seen, and what it told; it tells nothing where no memory is found, and where nothing
-- is asked
pub record Turn : Type 0 where
  pub seen : History
  pub told : Option Telling

-- the clause of `answer`
abbrev pub IsTelling : Opening → History → Option Telling → Type 0
IsTelling o h None = Unit {0}
IsTelling o h (Some t) =
    AreBytes t.call.bytes × (is_change_of t.call.bytes ≡ false) × Replies o h t.call t.what t.reply t.line

-- what was seen at the last turn of a loop
abbrev pub last_turn : List Turn → History
last_turn [] = []
last_turn (t ∷ ts) = t.seen

-- the calls of one loop, the newest first: each goes on from what was seen before
abbrev pub AreTurns : Opening → List Turn → Type 0
AreTurns o [] = Unit {0}
AreTurns o (t ∷ ts) = IsTelling o t.seen t.told × IsPast (last_turn ts) t.seen × AreTurns o ts

-- ---- a writer

-- what a call of a writer did
pub data Deed : Type 0 where
  Changes : Telling → Deed
  Sweeps : ℕ → Deed
  Reloads : ℕ → SiteRules → Deed

-- the clauses of `change`, `sweep` and `reload`, between the histories before and after
abbrev pub IsDone : Opening → History → Deed → History → Type 0
IsDone o h (Changes t) after = AreBytes t.call.bytes × (is_change_of t.call.bytes ≡ true)
    × IsChanged o h t.call.moment t.call.asker t.call.bytes t.what t.reply t.line after
IsDone o h (Sweeps m) after = after ≡ sweep_at (now h m) ∷ h
IsDone o h (Reloads m rs) after = after ≡ reload_at (now h m) rs ∷ h

-- the calls of a writer, the newest first, each at the history that the one before left, and the history after all of them
abbrev pub AreDone : Opening → List Deed → History → Type 0
AreDone o [] h = h ≡ []
AreDone o (d ∷ ds) h = (before : History) × IsDone o before d h × AreDone o ds before

-- ---- the run

-- the reply and the line are of this outcome
abbrev pub IsToldAs : Opening → History → Telling → Outcome → Type 0
IsToldAs o h t r = Tells (rules o.rules h) t.call.asker (heading_of t.call.bytes) r t.what t.reply t.line

-- so a visit has it, or tells nothing
abbrev pub IsToldBy : Opening → History → Option Telling → Option (Call × Outcome) → Type 0
IsToldBy o h None u = u ≡ None
IsToldBy o h (Some t) u = (r : Outcome) × (u ≡ Some (t.call, r)) × IsToldAs o h t r

-- a loop's visits are its calls
abbrev pub AreVisitsOf : Opening → List Turn → List Visit → Type 0
AreVisitsOf o [] vs = vs ≡ []
AreVisitsOf o (t ∷ ts) [] = ⊥
AreVisitsOf o (t ∷ ts) (v ∷ vs) = (v.at ≡ t.seen) × IsToldBy o t.seen t.told v.told × AreVisitsOf o ts vs

-- this is what the writer does for a deed
abbrev pub IsWriteOf : Opening → History → Deed → Happening → Type 0
IsWriteOf o h (Changes t) e = (r : Outcome) × (change : Option Event) × (e ≡ Publish t.call r change) × IsToldAs o h t r
IsWriteOf o h (Sweeps m) e = e ≡ Sweep m
IsWriteOf o h (Reloads m rs) e = e ≡ Reload m rs

-- what is written in a run are the writer's calls
abbrev pub AreWritesOf : Opening → List Deed → Run → Type 0
AreWritesOf o [] es = es ≡ []
AreWritesOf o (d ∷ ds) [] = ⊥
AreWritesOf o (d ∷ ds) (e ∷ es) = IsWriteOf o (world es).published d e × AreWritesOf o ds es

-- A run in which the writer did just what it did, and each of so many loops told just what it told, each in its own order.
pub record IsRunOf (o : Opening) (deeds : List Deed) (number : ℕ) (loops : ℕ → List Turn) (published : History)
    (run : Run) : Type 0 where
  pub is : IsRun o run
  pub leaves : (world run).published ≡ published
  pub written : AreWritesOf o deeds (writes_of run)
  pub told : (i : ℕ) → i < number → AreVisitsOf o (loops i) (visits_of i run)
  pub kept : IsKeptThroughout o run
