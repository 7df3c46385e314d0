-- What threads did at one published history: where each asked what, what the writer left there, and that all of it is one run, whatever was told.
use Rattle.std.specs.Prelude.{◌≡◌, ◌⊎◌, ℕ, ◌≤◌, Bool, true, false, List, [], ◌∷◌, length, Contains, Option, Some, None, refl}
use Rattle.std.specs.Coded.{Coded, code_by, coded×, coded_bool, coded_ℕ, coded_list, coded_option}
use Rattle.std.specs.List.{AllByRecursion}
use mathlib.Core.Option.{some}
use lib.ListN.{get_elem?}
use Rattle.access_rules.specs.Deciding.{SiteRules}
use Rattle.directory_judge.specs.History.{Event, History}
use Rattle.directory_questions.specs.Calls.{Opening, Call}
use Rattle.directory_questions.specs.Outcomes.{Outcome}
use Rattle.directory_questions.specs.Verdicts.{IsLegal}
use Rattle.history_log.specs.Events.{event_code}
use Rattle.history_log.specs.Pasts.{IsPast}
use Rattle.directory_runs.specs.Runs.{Happening, Publish, Sweep, Reload, World, Run, IsRun, May, happened, world}
use Rattle.directory_runs.specs.Served.{Visit, IsTold, is_write, visits_of}

-- ---- what one thread did

pub data Mark : Type 0 where
  -- it saw a history, and asked a call at it, or none
  Asked : History → Option Call → Mark
  -- it left a history, with the change that a call asked for, or with a sweep or a reload
  Wrote : History → Option Call → Mark

-- the newest first
abbrev pub Trace : Type 0
Trace = List Mark

abbrev pub call_code : Coded Call
call_code = code_by (ℕ × (ℕ × (ℕ × (List ℕ × ℕ)))) (coded× coded_ℕ (coded× coded_ℕ (coded× coded_ℕ (coded× (coded_list coded_ℕ) coded_ℕ))))
    (λ c. (c.own, (c.moment, (c.asker, (c.bytes, c.limit)))))
    (λ t. record { own = t.0; moment = t.1.0; asker = t.1.1.0; bytes = t.1.1.1.0; limit = t.1.1.1.1 })
    (λ _. refl)

abbrev pub mark_of : Bool → History → Option Call → Mark
mark_of true h call = Wrote h call
mark_of false h call = Asked h call

abbrev pub is_wrote : Mark → Bool
is_wrote (Wrote h call) = true
is_wrote (Asked h call) = false

abbrev pub at_of : Mark → History
at_of (Wrote h call) = h
at_of (Asked h call) = h

abbrev pub call_of : Mark → Option Call
call_of (Wrote h call) = call
call_of (Asked h call) = call

abbrev pub mark_again : (m : Mark) → mark_of (is_wrote m) (at_of m) (call_of m) ≡ m
mark_again (Wrote h call) = refl
mark_again (Asked h call) = refl

abbrev pub mark_code : Coded Mark
mark_code = code_by (Bool × (List Event × Option Call)) (coded× coded_bool (coded× (coded_list event_code) (coded_option call_code)))
    (λ m. (is_wrote m, (at_of m, call_of m)))
    (λ t. mark_of t.0 t.1.0 t.1.1)
    mark_again

abbrev pub trace_code : Coded Trace
trace_code = coded_list mark_code

-- the history that it saw last
abbrev pub last_at : Trace → History
last_at [] = []
last_at (Asked h call ∷ trace) = h
last_at (Wrote h call ∷ trace) = last_at trace

-- ---- what it was told

-- a call and what was told of it; nothing was where there was no memory
abbrev pub told_of : Option Call → Option Outcome → Option (Call × Outcome)
told_of None r = None
told_of (Some c) None = None
told_of (Some c) (Some r) = Some (c, r)

-- what it was told, by number, beside what it asked
abbrev pub told_visits : (ℕ → Option Outcome) → Trace → List Visit
told_visits told [] = []
told_visits told (Asked h call ∷ trace) = record { at = h; told = told_of call (told (length trace)) } ∷ told_visits told trace
told_visits told (Wrote h call ∷ trace) = told_visits told trace

-- each thing that it was told is what is to be told of the call where it was asked
abbrev pub AreTold : Opening → (ℕ → Option Outcome) → Trace → Type 0
AreTold o told trace = AllByRecursion (λ v. IsTold o v.at v.told) (told_visits told trace)

-- the same of each thread, by its number
abbrev pub AreAllTold : Opening → (ℕ → ℕ → Option Outcome) → List Trace → Type 0
AreAllTold o told traces = (i : ℕ) (trace : Trace) → get_elem? traces i ≡ some trace → AreTold o (told i) trace

-- ---- what it wrote

-- the bytes of a call were judged, or it is a sweep or a reload
abbrev pub IsWriteFor : Option Call → Happening → Type 0
IsWriteFor (Some c) e = (r : Outcome) × (change : Option Event) × (e ≡ Publish c r change)
IsWriteFor None e = ((m : ℕ) × (e ≡ Sweep m)) ⊎ ((m : ℕ) × (rs : SiteRules) × (e ≡ Reload m rs))

-- a run has a write for the call, which left the history
abbrev pub HasWrite : History → Option Call → Run → Type 0
HasWrite h call [] = ⊥
HasWrite h call (e ∷ es) = (IsWriteFor call e × ((world (e ∷ es)).published ≡ h)) ⊎ HasWrite h call es

abbrev pub IsWrittenIn : Run → Mark → Type 0
IsWrittenIn run (Asked h call) = Unit {0}
IsWrittenIn run (Wrote h call) = HasWrite h call run

-- some thread made a write, which left the history
abbrev pub IsMade : List Trace → History → Happening → Type 0
IsMade traces h e = (i : ℕ) × (trace : Trace) × (call : Option Call) × (get_elem? traces i ≡ some trace) × Contains trace (Wrote h call) × IsWriteFor call e

-- each write of a run was made by a thread
abbrev pub AreMade : List Trace → Run → Type 0
AreMade traces [] = Unit {0}
AreMade traces (e ∷ es) = (is_write e ≡ true → IsMade traces (world (e ∷ es)).published e) × AreMade traces es

-- the writer may write so for a call, wherever the one history is published, and leaves the other
abbrev pub IsWritten : Opening → Option Call → History → History → Type 0
IsWritten o call before after = (e : Happening) × IsWriteFor call e × ((w : World) → w.published ≡ before → May o w e × ((happened w e).published ≡ after))

-- ---- together

-- A run that published this history, in which these threads asked just what they asked and were told just that, and no others; what they wrote is in it, and
-- nothing else is written there.
pub record IsRunBehind (o : Opening) (published : History) (told : ℕ → ℕ → Option Outcome) (traces : List Trace) (run : Run) : Type 0 where
  pub is : IsRun o run
  pub at : (world run).published ≡ published
  pub visits : (i : ℕ) (trace : Trace) → get_elem? traces i ≡ some trace → visits_of i run ≡ told_visits (told i) trace
  pub others : (i : ℕ) → length traces ≤ i → visits_of i run ≡ []
  pub written : (i : ℕ) (trace : Trace) → get_elem? traces i ≡ some trace → AllByRecursion (IsWrittenIn run) trace
  pub made : AreMade traces run

-- whatever was told to those that asked, there is such a run
abbrev pub HaveRuns : Opening → History → List Trace → Type 0
HaveRuns o published traces = (told : ℕ → ℕ → Option Outcome) → AreAllTold o told traces → (run : Run) × IsRunBehind o published told traces run

-- the same of one thread: whatever else happened
abbrev pub HasRuns : Opening → History → Trace → Type 0
HasRuns o published trace = (told : ℕ → Option Outcome) → AreTold o told trace → (run : Run) × (i : ℕ) × IsRun o run × ((world run).published ≡ published) × (visits_of i run ≡ told_visits told trace)

-- A thread asked a call, or none, at a legal history that goes on from what it saw. Whatever it was told, it was told so in a run that published this history.
pub record IsAsked (o : Opening) (before : Trace) (call : Option Call) (after : Trace) : Type 0 where
  pub newest : after ≡ Asked (last_at after) call ∷ before
  pub later : IsPast (last_at before) (last_at after)
  pub legal : IsLegal o (last_at after)
  pub runs : HasRuns o (last_at after) after
