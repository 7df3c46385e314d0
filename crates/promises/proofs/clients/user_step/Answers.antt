use Rattle.promises.proofs.clients.user_step.Goals as goal

pub returns : goal.returns
returns c = c.step-told.ensures
