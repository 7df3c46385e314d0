use Rattle.access_rules.proofs.DecidingRules.{first_fits}
use Rattle.access_rules.proofs.laws.the_first_rule_that_fits_decides.Goals as goal

pub returns : goal.returns
returns c = first_fits
