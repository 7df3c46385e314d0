use Rattle.access_rules.proofs.DecidingRules.{covered_rule}
use Rattle.access_rules.proofs.laws.a_covered_rule_never_decides.Goals as goal

pub returns : goal.returns
returns c = covered_rule
