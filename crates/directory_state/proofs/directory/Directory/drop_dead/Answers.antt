use Rattle.std.proofs.Common.{ap}
use Rattle.directory_state.specs.State.{State, swept}
use Rattle.directory_state.proofs.States.{same_state, swept-is}
use Rattle.directory_state.proofs.directory.Directory.drop_dead.Goals as goal

pub returns : goal.returns
returns g c =
    let old = c.args.self.now in
    same_state (swept c.args.moment old) _ _ _ _
    (swept-is _ c.args.moment _ old.entries (g.R.Registry.contents c.sweep.new.self) c.sweep.ensures.each c.from.ensures (ap (λ (s : State). s.entries) c.self.view_is))
    (ap (λ (s : State). s.rules) c.self.view_is) (ap (λ (s : State). s.site) c.self.view_is) c.now-self-inside.ensures
