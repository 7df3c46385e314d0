use Rattle.access_rules.proofs.ShownKinds.{none-shown}
use Rattle.access_rules.proofs.laws.what_no_rule_may_show_is_denied.Goals as goal

pub returns : goal.returns
returns c = none-shown
