-- What may become of the server's sweeper, second after second.
use Rattle.std.specs.Prelude.{◌≡◌, ℕ}
use Rattle.expiry_sweep.specs.Schedules.{Timing, timing_after}
use Rattle.agent_watch.specs.Watching.{Deed, Looked, Napped, Turned}

-- it is turned at the moment of the clock then, and else left alone
abbrev pub Moves : Deed → Timing → Timing → ℕ → Type 0
Moves (Looked over) before after now = after ≡ before
Moves (Napped millis) before after now = after ≡ before
Moves Turned before after now = after ≡ timing_after before now
