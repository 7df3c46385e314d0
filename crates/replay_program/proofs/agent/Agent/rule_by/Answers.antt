use Rattle.std.proofs.Common.{max, refl}
use Rattle.std.specs.Arc.{arc_value}
use Rattle.replay_program.proofs.Operations.{IsAgent-reloaded_world}
use Rattle.replay_program.proofs.agent.Agent.rule_by.Goals as goal

pub returns : goal.returns
returns c =
    let agent = c.args.self.now in
    λ w h. IsAgent-reloaded_world w agent _ (max agent.moment agent.directory.clock) (arc_value c.args.rules) h refl c.reload.ensures.fold refl refl refl refl
