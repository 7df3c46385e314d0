use Rattle.directory_runs.proofs.Hiding.{not-had, not-told, seen-without}
use Rattle.directory_runs.proofs.laws.what_is_kept_from_others_is_not_seen.Goals as goal

pub returns-clause-seen : goal.returns-clause-seen
returns-clause-seen c = not-had

pub returns-clause-told : goal.returns-clause-told
returns-clause-told c = not-told

pub returns-clause-alike : goal.returns-clause-alike
returns-clause-alike c = seen-without
