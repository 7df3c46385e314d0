use Rattle.directory_promises.proofs.rules.verdict.Goals as goal

pub returns : goal.returns
returns c = record { value = c.verdict-told.ensures.value; within = c.verdict-told.ensures.within }
