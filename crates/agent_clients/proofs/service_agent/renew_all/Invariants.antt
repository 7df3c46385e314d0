use Rattle.std.proofs.Common.{◌≡◌, ◌++◌, map, take, drop}
use Rattle.agent_clients.specs.Keeping.{renewed}
use Rattle.agent_clients.proofs.service_agent.renew_all.Given as goal

abbrev pub invariant-loop-lease : goal.invariant-loop-lease
invariant-loop-lease l = l.kept ≡ map (renewed l.now) (take l.lease-index l.fn.kept) ++ drop l.lease-index l.fn.kept
