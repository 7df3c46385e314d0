use Rattle.std.proofs.Common.{◌-◌, Bool, List}
use Rattle.agent_watch.specs.Watching.{Deed, Does, Sleeps}
use Rattle.agent_watch.proofs.watching.sleep.Given as goal

abbrev pub invariant-loop : goal.invariant-loop
invariant-loop g l =
    (awake : Bool) (ds : List Deed) (end : _) → Does g.W.Watch.may l.watch ds end → Sleeps (5 - l.counter) awake ds
    → (all : List Deed) × Does g.W.Watch.may l.fn.watch all end × Sleeps 5 awake all
