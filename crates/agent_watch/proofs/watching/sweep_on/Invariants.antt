use Rattle.std.proofs.Common.{List}
use Rattle.agent_watch.specs.Watching.{Deed, Does, Sweeps}
use Rattle.agent_watch.proofs.watching.sweep_on.Given as goal

abbrev pub invariant-loop : goal.invariant-loop
invariant-loop g l = (ds : List Deed) (end : _) → Does g.W.Watch.may l.watch ds end → Sweeps ds → (all : List Deed) × Does g.W.Watch.may l.fn.watch all end × Sweeps all
