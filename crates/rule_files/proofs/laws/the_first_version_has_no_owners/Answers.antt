use Rattle.rule_files.proofs.Versions.{first-version}
use Rattle.rule_files.proofs.laws.the_first_version_has_no_owners.Goals as goal

pub returns : goal.returns
returns c = first-version
