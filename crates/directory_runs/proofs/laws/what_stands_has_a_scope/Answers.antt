use Rattle.directory_runs.proofs.Standing.{has_scopes}
use Rattle.directory_runs.proofs.laws.what_stands_has_a_scope.Goals as goal

pub returns : goal.returns
returns c = has_scopes
