use Rattle.std.proofs.Common.{IfOk, sym, subst}
use Rattle.directory_judge.specs.Judgements.{because_of_entry, judgement_in}
use Rattle.directory_judge.specs.NamedEntries.{IsJudgedNamed}
use Rattle.directory_judge.proofs.grounds.Grounds.judge_named.Goals as goal

pub returns-then-fresh : goal.returns-then-fresh
returns-then-fresh g c = subst (λ b. IfOk c.judge_new.result (λ j. IsJudgedNamed c.args.self.now b c.args.named (because_of_entry c.args.decider c.args.named) (judgement_in j))) (sym c.if-fresh.true) c.judge_new.ensures

pub returns-else-fresh : goal.returns-else-fresh
returns-else-fresh g c = subst (λ b. IfOk c.judge_update.result (λ j. IsJudgedNamed c.args.self.now b c.args.named (because_of_entry c.args.decider c.args.named) (judgement_in j))) (sym c.if-fresh.false) c.judge_update.ensures
