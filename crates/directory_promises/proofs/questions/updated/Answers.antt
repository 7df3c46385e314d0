use Rattle.directory_promises.proofs.questions.updated.Goals as goal

pub returns : goal.returns
returns c = record { value = c.updated-told.ensures.value; memory = c.updated-told.ensures.memory }
