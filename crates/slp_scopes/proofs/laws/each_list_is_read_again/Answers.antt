use Rattle.slp_scopes.proofs.PrintedScopes.{printed_scopes-read}
use Rattle.slp_scopes.proofs.laws.each_list_is_read_again.Goals as goal

pub returns : goal.returns
returns c = printed_scopes-read c.args.scopes.now c.len.ensures.scopes
