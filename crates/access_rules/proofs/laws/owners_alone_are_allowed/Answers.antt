use Rattle.access_rules.proofs.Owners.{owners-alone}
use Rattle.access_rules.proofs.laws.owners_alone_are_allowed.Goals as goal

pub returns : goal.returns
returns c = owners-alone
