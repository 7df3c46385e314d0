use Rattle.std.proofs.Common.{true, false, refl}
use Rattle.agent_clients.specs.Upkeep.{Keeps, Looked, Rested}
use Rattle.agent_clients.proofs.Courses.{goes_one, goes_on}
use Rattle.agent_clients.proofs.keeping.take_turns.Goals as goal

pub returns-then-is_stopped : goal.returns-then-is_stopped
returns-then-is_stopped g c =
    goes_on g.O.Outside.may Keeps _ _ _ _ _ _ c.loop.invariant (goes_one g.O.Outside.may Keeps _ _ _ _ (Looked true) c.if-is_stopped.ensures refl)

pub returns-in-Err : goal.returns-in-Err
returns-in-Err g c =
    goes_on g.O.Outside.may Keeps _ _ _ _ _ _ c.loop.invariant (goes_on g.O.Outside.may Keeps _ _ _ _ _ _ (goes_one g.O.Outside.may Keeps _ _ _ _ (Looked false) c.if-is_stopped.ensures refl) c.in-Err.ensures)

pub loop-preserved : goal.loop-preserved
loop-preserved g c =
    goes_on g.O.Outside.may Keeps _ _ _ _ _ _ c.loop.invariant (goes_on g.O.Outside.may Keeps _ _ _ _ _ _ (goes_one g.O.Outside.may Keeps _ _ _ _ (Looked false) c.if-is_stopped.ensures refl)
    (goes_on g.O.Outside.may Keeps _ _ _ _ _ _ c.in_default.ensures (goes_one g.O.Outside.may Keeps _ _ _ _ Rested c.rest.ensures refl)))
