use Rattle.access_rules.proofs.DecidingRules.{no_rule_allows, default_decides}
use Rattle.access_rules.proofs.laws.what_no_rule_allows_is_denied.Goals as goal

pub returns : goal.returns
returns c = record { denied = no_rule_allows; by_default = default_decides }
