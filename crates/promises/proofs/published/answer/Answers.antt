use Rattle.promises.proofs.published.answer.Goals as goal

pub returns : goal.returns
returns g c = record { asked = c.answer-told.ensures.asked; told = c.answer-told.ensures.told; untold = c.answer-told.ensures.untold; later = c.answer-told.ensures.later; no_reply = c.answer-told.ensures.no_reply; no_line = c.answer-told.ensures.no_line; closed = c.answer-told.ensures.closed; faults = c.answer-told.ensures.faults }
