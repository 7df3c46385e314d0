use Rattle.agent_clients.specs.Runs.{Goes}
use Rattle.agent_clients.specs.Upkeep.{Looks, Keeps}
use Rattle.agent_clients.proofs.keeping.take_turns.Given as goal

abbrev pub invariant-loop : goal.invariant-loop
invariant-loop g l = Goes g.O.Outside.may Keeps l.fn.outside (Looks l.fn.agent) l.outside (Looks l.agent)
