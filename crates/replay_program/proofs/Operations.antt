-- What the operator's sweeps and reloads make of an agent.
use Rattle.std.proofs.Common.{◌≡◌, ℕ, ◌≤◌, max, ◌∷◌, refl, sym, ◌∙◌, arith}
use Rattle.directory_judge.specs.History.{Act, Event, History, Reload, Sweep, clock, now}
use Rattle.access_rules.specs.Deciding.{SiteRules}
use Rattle.directory_judge.specs.Contents.{Content, Reloads, Sweeps}
use Rattle.directory_questions.specs.Calls.{Opening}
use Rattle.directory_questions.specs.Verdicts.{IsGrounded, IsLegal}
use Rattle.directory_state.specs.Folds.{Fold, StandsFor}
use Rattle.directory_state.specs.State.{State}
use Rattle.replay_program.specs.Sessions.{IsAgent}
use Rattle.replay_program.specs.Worlds.{World, opening_of, reloaded_world, swept_world, world_with}
use Rattle.replay_program.specs.declared.agent.Agent.{Agent}

-- what an applied change promises of the directory after it
abbrev pub Folds : State → Content → State → Type 0
Folds s made t = (o : Opening) (h : History) (c : Event) → Fold o h s → IsLegal o (c ∷ h) → StandsFor h made c → Fold o (c ∷ h) t

later : (m k : ℕ) → k ≤ max m k
later m k = grind (arith)

moment_of : (w : World) (a : Agent) (n : ℕ) → IsAgent w a → n ≡ max a.moment a.directory.clock → now w.history w.moment ≡ n
moment_of w a n h at = sym (at ∙ rw (h.moment, h.fold.clocks) refl)

-- a change is made that stands for an act
made : (w : World) (a b : Agent) (act : Act) (x : Content) → IsAgent w a
    → IsGrounded (opening_of w) w.history (record { moment = now w.history w.moment; act = act }) → StandsFor w.history x (record { moment = now w.history w.moment; act = act })
    → Folds a.directory x b.directory → b.listen ≡ a.listen → b.loop_index ≡ a.loop_index → b.moment ≡ a.moment → b.asker ≡ a.asker → IsAgent (world_with act w) b
made w a b act x h grounded stands folds listen loop moment asker =
    let event : Event = record { moment = now w.history w.moment; act = act } in
    let legal : IsLegal (opening_of w) (event ∷ w.history) = (later w.moment (clock w.history), grounded, h.legal) in
    record {
      legal = legal;
      fold = folds (opening_of w) w.history event h.fold legal stands;
      listen = listen ∙ h.listen;
      loop = loop ∙ h.loop;
      moment = moment ∙ h.moment;
      asker = asker ∙ h.asker;
    }

-- what is dead is dropped
pub IsAgent-swept_world : (w : World) (a b : Agent) (n : ℕ) → IsAgent w a → n ≡ max a.moment a.directory.clock → Folds a.directory (Sweeps n) b.directory → b.listen ≡ a.listen → b.loop_index ≡ a.loop_index → b.moment ≡ a.moment → b.asker ≡ a.asker → IsAgent (swept_world w) b
IsAgent-swept_world w a b n h at folds = made w a b Sweep (Sweeps n) h tt (moment_of w a n h at, refl) folds

-- other rules decide
pub IsAgent-reloaded_world : (w : World) (a b : Agent) (n : ℕ) (rs : SiteRules) → IsAgent w a → n ≡ max a.moment a.directory.clock → Folds a.directory (Reloads n rs) b.directory → b.listen ≡ a.listen → b.loop_index ≡ a.loop_index → b.moment ≡ a.moment → b.asker ≡ a.asker → IsAgent (reloaded_world rs w) b
IsAgent-reloaded_world w a b n rs h at folds = made w a b (Reload rs) (Reloads n rs) h tt (moment_of w a n h at, refl) folds
