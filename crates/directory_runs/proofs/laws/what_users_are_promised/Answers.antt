use Rattle.directory_runs.proofs.Promises.{kept_throughout}
use Rattle.directory_runs.proofs.laws.what_users_are_promised.Goals as goal

pub returns : goal.returns
returns c = kept_throughout
