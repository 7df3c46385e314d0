use Rattle.promises.proofs.replies.audit_line.Goals as goal

pub returns : goal.returns
returns c = record { ok = c.audit_line-told.ensures.ok; err = c.audit_line-told.ensures.err }
