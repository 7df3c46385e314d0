use Rattle.std.proofs.Common.{ℕ, sym, subst}
use Rattle.replay_program.specs.Reports.{Reports}
use Rattle.slpreplay.proofs.leave.Goals as goal

-- the status that is left with is the one that was answered
pub returns-clause-runs : goal.returns-clause-runs
returns-clause-runs g c = λ none.
    subst (λ (status : ℕ). Reports (g.R.Read.remaining c.args.reader.now) (g.R.Read.remaining c.replay_run.new.reader) (g.W.Write.contents c.args.writer.now) (g.W.Write.contents c.replay_run.new.writer) status)
    (sym c.from.ensures) (c.replay_run.ensures.runs none)
