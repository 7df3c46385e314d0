use Rattle.std.proofs.Common.{sym, subst}
use Rattle.directory_judge.specs.Contents.{Sweeps}
use Rattle.directory_state.specs.Folds.{StandsFor}
use Rattle.directory_state.proofs.directory.Directory.sweep.Goals as goal

pub returns-clause-fold : goal.returns-clause-fold
returns-clause-fold g c = λ o h event fold legal stands. c.apply.ensures.fold o h event fold legal (subst (λ n. StandsFor h (Sweeps n) event) (sym c.now-now.ensures) stands)
