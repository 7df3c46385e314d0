-- Who asks the state of a directory.
use Rattle.std.specs.Prelude.{◌≡◌, ℕ, max, List}
use Rattle.directory_questions.specs.Sights.{asked_scopes}
use Rattle.directory_state.specs.State.{State}
use Rattle.directory_state.specs.declared.asked.Viewer.{Viewer}

-- the viewer asks a state at a moment in these scopes: its rules decide, and those of the scopes count that its site supports
pub record IsViewerOf (s : State) (moment asker : ℕ) (scopes : List (List ℕ)) (v : Viewer) : Type 0 where
  pub rules : v.rules.now ≡ s.rules
  pub asked : v.asked ≡ asked_scopes s.site scopes
  pub asks : v.asker ≡ asker
  pub acts : v.moment ≡ max moment s.clock
