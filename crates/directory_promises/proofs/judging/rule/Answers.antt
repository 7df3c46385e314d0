use Rattle.directory_promises.proofs.judging.rule.Goals as goal

pub returns : goal.returns
returns g c = c.rule-told.ensures
