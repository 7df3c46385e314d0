use Rattle.slp_replies.specs.Audits.{audit_of}
use Rattle.slp_replies.proofs.AuditLines.{usual_is}
use Rattle.slp_replies.proofs.audit.usual_head.Goals as goal

pub returns-in-0-Nobody-See : goal.returns-in-0-Nobody-See
returns-in-0-Nobody-See c = λ name. usual_is name (audit_of c.args.audit.now) c.in-0-Nobody-See.is-0 c.in-0-Nobody-See.is-1 c.in-0-Nobody-See.is-2
