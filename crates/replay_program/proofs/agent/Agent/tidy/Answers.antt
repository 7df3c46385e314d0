use Rattle.std.proofs.Common.{max, refl}
use Rattle.replay_program.proofs.Operations.{IsAgent-swept_world}
use Rattle.replay_program.proofs.agent.Agent.tidy.Goals as goal

pub returns : goal.returns
returns c =
    let agent = c.args.self.now in
    λ w h. IsAgent-swept_world w agent _ (max agent.moment agent.directory.clock) h refl c.sweep.ensures.fold refl refl refl refl
