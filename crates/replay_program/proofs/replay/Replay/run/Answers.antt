use Rattle.std.proofs.lemmas.Result.{err_from_is_err_and}
use Rattle.replay_program.proofs.ScriptReads.{Gives-lacks, Gives-known, KnownGives-lacks}
use Rattle.replay_program.proofs.replay.Replay.run.Goals as goal

pub returns-in_default-clause-gives : goal.returns-in_default-clause-gives
returns-in_default-clause-gives g c = Gives-lacks _ _

pub returns-in_default-clause-known : goal.returns-in_default-clause-known
returns-in_default-clause-known g c = KnownGives-lacks (g.R.Read.remaining c.args.reader.now) (g.W.Write.contents c.args.writer.now)

pub returns-in_err-progress-clause-gives : goal.returns-in_err-progress-clause-gives
returns-in_err-progress-clause-gives g c =
    let p = err_from_is_err_and c.from_residual.result c.from_residual.ensures.1 in
    rw (p.1, p.2) (Gives-lacks _ _)

pub returns-in_err-progress-clause-known : goal.returns-in_err-progress-clause-known
returns-in_err-progress-clause-known g c =
    let p = err_from_is_err_and c.from_residual.result c.from_residual.ensures.1 in
    rw (p.1, p.2) (KnownGives-lacks (g.R.Read.remaining c.args.reader.now) (g.W.Write.contents c.args.writer.now))

pub run_through-requires-clause-begun : goal.run_through-requires-clause-begun
run_through-requires-clause-begun g c = c.in_ok-progress.ensures

pub returns-clause-gives : goal.returns-clause-gives
returns-clause-gives g c = c.run_through.ensures

pub returns-clause-known : goal.returns-clause-known
returns-clause-known g c = Gives-known _ _ _ _ _ c.run_through.ensures
