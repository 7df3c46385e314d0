use Rattle.directory_promises.proofs.messages.read_question.Goals as goal

pub returns : goal.returns
returns c = c.read_question-told.ensures
