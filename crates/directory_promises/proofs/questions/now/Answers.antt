use Rattle.directory_promises.proofs.questions.now.Goals as goal

pub returns : goal.returns
returns g c = c.now-told.ensures
