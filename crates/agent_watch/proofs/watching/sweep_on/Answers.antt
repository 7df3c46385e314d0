use Rattle.std.proofs.Common.{zero, suc, ◌∷◌, ◌++◌, refl, subst}
use Rattle.agent_watch.specs.Watching.{Sleeps, Turned}
use Rattle.agent_watch.proofs.Watches.{does_on}
use Rattle.agent_watch.proofs.watching.sweep_on.Goals as goal

pub loop-init : goal.loop-init
loop-init g c = λ ds end does sweeps. (ds, does, sweeps)

pub loop-preserved : goal.loop-preserved
loop-preserved g c = λ ds end does sweeps.
    let s = c.sleep.ensures in
    c.loop.invariant (s.0 ++ (Turned ∷ ds)) end (does_on g.W.Watch.may c.loop.watch s.0 (Turned ∷ ds) c.sleep.new.watch end s.1 (c.turn.new.self, c.turn.ensures, does))
    (suc sweeps.0, (s.0, ds, subst (λ b. Sleeps 5 b s.0) c.if-not-sleep.false s.2, sweeps.1, refl))

pub returns-then-not-sleep : goal.returns-then-not-sleep
returns-then-not-sleep g c = let s = c.sleep.ensures in c.loop.invariant s.0 c.sleep.new.watch s.1 (zero, subst (λ b. Sleeps 5 b s.0) c.if-not-sleep.true s.2)
