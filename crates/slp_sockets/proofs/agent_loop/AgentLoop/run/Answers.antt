use Rattle.std.proofs.Common.{ap, ◌∙◌}
use Rattle.slp_sockets.specs.Turning.{tended}
use Rattle.slp_sockets.proofs.Reaching.{reach_turn, settled_last}
use Rattle.slp_sockets.proofs.agent_loop.AgentLoop.run.Goals as goal

pub loop-preserved-then-is_err : goal.loop-preserved-then-is_err
loop-preserved-then-is_err g c = record {
  limit = c.turn-told.ensures.limit ∙ c.loop.invariant.limit;
  served = reach_turn g.S.Serve.manner (tended c.args.self.now) (tended c.loop.self) (tended c.turn-told.new.self) c.loop.invariant.served c.turn-told.ensures.served;
}

pub loop-preserved : goal.loop-preserved
loop-preserved g c = record {
  limit = c.turn-told.ensures.limit ∙ c.loop.invariant.limit;
  served = reach_turn g.S.Serve.manner (tended c.args.self.now) (tended c.loop.self) (tended c.turn-told.new.self) c.loop.invariant.served c.turn-told.ensures.served;
}

pub returns-then-load-clause-served : goal.returns-then-load-clause-served
returns-then-load-clause-served g c =
    settled_last g.S.Serve.manner (tended c.args.self.now) (tended c.loop.self) c.self.inside.streams.seats c.self.inside.server c.settle.new.self (ap tended c.self.view_is) c.loop.invariant.served c.settle.ensures

pub returns-then-is_lost-clause-served : goal.returns-then-is_lost-clause-served
returns-then-is_lost-clause-served g c =
    let turned = reach_turn g.S.Serve.manner (tended c.args.self.now) (tended c.loop.self) (tended c.turn-told.new.self) c.loop.invariant.served c.turn-told.ensures.served in
    let l = c.self-in-loop in
    settled_last g.S.Serve.manner (tended c.args.self.now) (tended c.turn-told.new.self) l.inside.streams.seats l.inside.server c.settle-then-is_lost.new.self (ap tended l.view_is) turned c.settle-then-is_lost.ensures
