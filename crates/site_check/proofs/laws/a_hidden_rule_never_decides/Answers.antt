use Rattle.access_rules.proofs.DecidingRules.{covered_rule}
use Rattle.site_check.proofs.HiddenRules.{fits_too}
use Rattle.site_check.proofs.laws.a_hidden_rule_never_decides.Goals as goal

pub returns : goal.returns
returns c rules first later wide narrow before is_wide is_narrow hidden = covered_rule rules first later wide narrow before is_wide is_narrow (fits_too wide narrow hidden)
