use Rattle.promises.proofs.published.change.Goals as goal

pub returns : goal.returns
returns g c = record { made = c.change-told.ensures.made; legal = c.change-told.ensures.legal; wrote = c.change-told.ensures.wrote; kept = c.change-told.ensures.kept; unwritten = c.change-told.ensures.unwritten; no_reply = c.change-told.ensures.no_reply; no_line = c.change-told.ensures.no_line; «open» = c.change-told.ensures.«open»; closed = c.change-told.ensures.closed; stays_shut = c.change-told.ensures.stays_shut; faults = c.change-told.ensures.faults }
