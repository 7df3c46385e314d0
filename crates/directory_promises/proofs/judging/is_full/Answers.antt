use Rattle.directory_promises.proofs.judging.is_full.Goals as goal

pub returns : goal.returns
returns g c = c.is_full-told.ensures
