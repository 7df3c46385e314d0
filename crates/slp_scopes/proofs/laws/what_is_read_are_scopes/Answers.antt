use Rattle.slp_scopes.proofs.PrintedScopes.{read_scopes, common-are_scopes}
use Rattle.slp_scopes.proofs.laws.what_is_read_are_scopes.Goals as goal

pub returns-clause-read : goal.returns-clause-read
returns-clause-read c = read_scopes

pub returns-clause-common : goal.returns-clause-common
returns-clause-common c = common-are_scopes
