use Rattle.std.proofs.Common.{refl, sym, ap, ◌∙◌}
use Rattle.replay_program.specs.declared.progress.Progress.{Progress}
use Rattle.replay_program.proofs.CommandsDone.{TurnsTo-outside, TurnsTo-inside}
use Rattle.replay_program.proofs.progress.Progress.turn.Goals as goal
use Rattle.replay_program.proofs.progress.Progress.turn.Goals.{in-None+in_ok-turn_outside-in-None, in-Some+in_ok-self-in-Some}

pub returns : goal.returns
returns g c = elim c.match-take.branch [
  | in-None+in_ok-turn_outside-in-None w ↦
      let done = w.in_ok-turn_outside-in-None.ensures in
      (done.0, rw w.writer-is done.1, TurnsTo-outside _ _ _ _ (sym c.take.ensures.value ∙ w.in-None.is) refl (rw (ap (λ (p : Progress). p.session) w.self-is, w.t-16-is) done.2))
  | in-Some+in_ok-self-in-Some w ↦
      let done = w.in_ok-self-in-Some.ensures in
      (done.0, rw w.writer-is done.1, TurnsTo-inside _ _ _ _ w.in-Some.block (sym c.take.ensures.value ∙ w.in-Some.is) refl (rw (ap (λ (p : Progress). p.session) w.self-is, w.t-16-is) done.2))
]
