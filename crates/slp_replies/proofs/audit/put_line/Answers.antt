use Rattle.std.proofs.Common.{◌++◌, ap, ◌∙◌}
use Rattle.slp_replies.specs.Audits.{audit_of, audit_text, line_text}
use Rattle.slp_replies.proofs.audit.put_line.Goals as goal

pub returns-in-Ok-clause-ok : goal.returns-in-Ok-clause-ok
unfolding audit_text
returns-in-Ok-clause-ok c =
    c.in-Ok.ensures.ok ∙ ap (λ items. items ++ line_text c.rule_name-rule.result.now (audit_of c.args.audit.now)) c.requires ∙ ap (λ name. line_text name (audit_of c.args.audit.now)) c.rule_name-rule.ensures
