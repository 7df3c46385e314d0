use Rattle.promises.proofs.replies.reply.Goals as goal

pub returns : goal.returns
returns g c = record { told = c.reply-told.ensures.told; no_reply = c.reply-told.ensures.no_reply; no_line = c.reply-told.ensures.no_line }
