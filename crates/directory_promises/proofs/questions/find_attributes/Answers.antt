use Rattle.directory_promises.proofs.questions.find_attributes.Goals as goal

pub returns : goal.returns
returns g c = record { scope = c.find_attributes-told.ensures.scope; language = c.find_attributes-told.ensures.language; joined = c.find_attributes-told.ensures.joined }
