use Rattle.std.proofs.Common.{sym, ◌∙◌}
use Rattle.slp_replies.proofs.replies.Reply.message.Goals as goal

pub written-requires-clause-written : goal.written-requires-clause-written
written-requires-clause-written c = λ e. let k = sym c.in_ok-put_message.ensures ∙ e in cc
