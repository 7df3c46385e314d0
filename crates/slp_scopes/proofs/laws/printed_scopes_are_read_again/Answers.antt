use Rattle.slp_scopes.proofs.PrintedScopes.{printed_scopes-read}
use Rattle.slp_scopes.proofs.laws.printed_scopes_are_read_again.Goals as goal

pub returns : goal.returns
returns c = printed_scopes-read
