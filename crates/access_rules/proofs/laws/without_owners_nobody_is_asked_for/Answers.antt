use Rattle.access_rules.proofs.Owners.{whoever-registered}
use Rattle.access_rules.proofs.laws.without_owners_nobody_is_asked_for.Goals as goal

pub returns : goal.returns
returns c = whoever-registered
