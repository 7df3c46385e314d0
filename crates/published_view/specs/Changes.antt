-- What a writer publishes.
use Rattle.std.specs.Prelude.{ℕ, Bool, false, List, [], ◌∷◌, Option, unwrap_or, refl}
use Rattle.std.specs.Coded.{Coded, code_by, coded×, coded_bool, coded_list}
use Rattle.directory_judge.specs.Contents.{Content, Stores, Edits, Withdraws, Sweeps, Reloads}
use Rattle.directory_judge.specs.History.{Event, History}
use Rattle.directory_questions.specs.Calls.{Opening, Call}
use Rattle.directory_state.specs.Events.{event_asked}
use Rattle.directory_state.specs.State.{state_after}
use Rattle.history_log.specs.Events.{event_code}
use Rattle.directory_runs.specs.Changes.{reload_at, sweep_at}
use Rattle.published_view.specs.Traces.{Trace, Wrote, trace_code}

-- what a writer is to contracts: the history that is published, what it wrote, the newest first, and whether it is shut
pub record Writing : Type 0 where
  pub history : History
  pub trace : Trace
  pub is_shut : Bool

abbrev pub writing_code : Coded Writing
writing_code = code_by (List Event × (Trace × Bool)) (coded× (coded_list event_code) (coded× trace_code coded_bool))
    (λ w. (w.history, (w.trace, w.is_shut)))
    (λ t. record { history = t.0; trace = t.1.0; is_shut = t.1.1 })
    (λ _. refl)

-- a writer that wrote nothing yet
abbrev pub at_opening : Writing
at_opening = record { history = []; trace = []; is_shut = false }

-- a writer that left this history last, for a call or none
abbrev pub written_at : Writing → History → Option Call → Writing
written_at w h call = record { history = h; trace = Wrote h call ∷ w.trace; is_shut = false }

-- ---- the event of a change, which no code computes

-- the event that bytes ask for at a history, and a sweep where they ask for none
abbrev pub event_or_sweep : Opening → History → ℕ → ℕ → List ℕ → Event
event_or_sweep o h m asker bytes = unwrap_or (event_asked (state_after o h) m asker bytes) (sweep_at m)

-- the event of a change of the operator's, which is a sweep or a reload
abbrev pub event_of_operator : Content → Event
event_of_operator (Sweeps m) = sweep_at m
event_of_operator (Reloads m rs) = reload_at m rs
event_of_operator (Stores m e) = sweep_at m
event_of_operator (Edits m e) = sweep_at m
event_of_operator (Withdraws m w) = sweep_at m
