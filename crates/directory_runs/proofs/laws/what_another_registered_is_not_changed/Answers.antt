use Rattle.directory_runs.proofs.Owners.{not-changed}
use Rattle.directory_runs.proofs.laws.what_another_registered_is_not_changed.Goals as goal

pub returns : goal.returns
returns c = not-changed
