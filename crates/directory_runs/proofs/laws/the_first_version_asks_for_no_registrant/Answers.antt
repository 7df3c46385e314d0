use Rattle.directory_runs.proofs.Owners.{no-registrant}
use Rattle.directory_runs.proofs.laws.the_first_version_asks_for_no_registrant.Goals as goal

pub returns : goal.returns
returns c = no-registrant
