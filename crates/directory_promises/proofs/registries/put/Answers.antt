use Rattle.directory_promises.proofs.registries.put.Goals as goal

pub returns : goal.returns
returns g c = record { ok = c.put-told.ensures.ok; full = c.put-told.ensures.full; only_full = c.put-told.ensures.only_full; err = c.put-told.ensures.err; room = c.put-told.ensures.room }
