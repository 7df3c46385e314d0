use Rattle.std.proofs.Common.{sym, subst}
use Rattle.std.specs.Arc.{arc_value}
use Rattle.directory_judge.specs.Contents.{Reloads}
use Rattle.directory_state.specs.Folds.{StandsFor}
use Rattle.directory_state.proofs.directory.Directory.reload.Goals as goal

pub returns-clause-fold : goal.returns-clause-fold
returns-clause-fold g c = λ o h event fold legal stands.
    c.apply.ensures.fold o h event fold legal (subst (λ n. StandsFor h (Reloads n (arc_value c.args.rules)) event) (sym c.now-now.ensures) stands)
