use Rattle.directory_promises.proofs.questions.find.Goals as goal

pub returns : goal.returns
returns g c = record { scope = c.find-told.ensures.scope; language = c.find-told.ensures.language; items = c.find-told.ensures.items; fits = c.find-told.ensures.fits; ended = c.find-told.ensures.ended }
