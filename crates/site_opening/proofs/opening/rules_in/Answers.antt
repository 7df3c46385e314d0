use Rattle.std.proofs.Common.{◌≡◌, Some, refl}
use Rattle.site_opening.proofs.Readings.{refused_rules}
use Rattle.site_opening.proofs.opening.rules_in.Goals as goal

pub returns-in-Err : goal.returns-in-Err
returns-in-Err c = refused_rules (λ t rules. t ≡ Some c.args.text.now) c.args.text.now c.in-Err.fault refl c.in-Err.ensures
