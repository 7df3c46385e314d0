use Rattle.directory_runs.proofs.Owners.{not-seen}
use Rattle.directory_runs.proofs.laws.what_another_registered_is_not_seen.Goals as goal

pub returns : goal.returns
returns c = not-seen
