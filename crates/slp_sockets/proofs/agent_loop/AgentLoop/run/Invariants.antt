use Rattle.std.proofs.Common.{◌≡◌}
use Rattle.slp_sockets.specs.Turning.{Reaches, tended}
use Rattle.slp_sockets.proofs.agent_loop.AgentLoop.run.Given as goal

abbrev pub invariant-loop : goal.invariant-loop
invariant-loop g l = record {
  limit : l.self.limit ≡ l.fn.self.limit;
  served : Reaches g.S.Serve.manner (tended l.fn.self) (tended l.self);
}
