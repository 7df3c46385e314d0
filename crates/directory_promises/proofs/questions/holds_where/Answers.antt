use Rattle.directory_promises.proofs.questions.holds_where.Goals as goal

pub returns : goal.returns
returns g c = c.holds_where-told.ensures
