use Rattle.directory_runs.proofs.Fitting.{reply_fits}
use Rattle.directory_runs.proofs.laws.replies_fit.Goals as goal

pub returns : goal.returns
returns c = λ o h call r change site address datagram is. reply_fits o h call datagram address site.short_scopes r change is
