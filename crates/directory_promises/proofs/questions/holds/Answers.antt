use Rattle.directory_promises.proofs.questions.holds.Goals as goal

pub returns : goal.returns
returns c = (_, c.in_ok-filter.ensures, c.holds-told.ensures)
