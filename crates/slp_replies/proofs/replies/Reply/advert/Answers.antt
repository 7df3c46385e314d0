use Rattle.slp_replies.proofs.replies.Reply.advert.Goals as goal

pub returns : goal.returns
returns c = rw c.in_ok-message.ensures.is at c.message-sent.ensures
