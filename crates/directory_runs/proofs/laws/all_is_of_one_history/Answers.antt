use Rattle.std.proofs.lemmas.List.Elements.{All-contains}
use Rattle.directory_runs.proofs.Kept.{kept_run, IsGiven}
use Rattle.history_log.specs.Pasts.{IsPast}
use Rattle.directory_runs.specs.Runs.{world}
use Rattle.directory_runs.proofs.laws.all_is_of_one_history.Goals as goal

pub returns : goal.returns
returns c = record {
  seen = λ o run i is. (kept_run o run is).seen i;
  notes = λ o run n is has. All-contains (λ x. IsPast x (world run).published) (world run).notes n (kept_run o run is).notes has;
  replies = λ o run r is has. (All-contains (IsGiven o (world run).published) (world run).replies r (kept_run o run is).replies has).past;
}
