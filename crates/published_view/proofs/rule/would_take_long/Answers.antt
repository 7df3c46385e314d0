use Rattle.std.proofs.Common.{refl}
use Rattle.published_view.proofs.Turns.{shows}
use Rattle.published_view.proofs.rule.would_take_long.Goals as goal

pub enter_as-requires : goal.enter_as-requires
enter_as-requires g c x = shows g.J.Naming.book g.J.Naming.opening _ _ x x refl
