use Rattle.std.proofs.Common.{◌≡◌, ◌≤◌, ◌++◌, length, ap, subst, ◌∙◌, arith}
use Rattle.std.specs.Prelude.{OnOk}
use Rattle.std.proofs.lemmas.Result.{on_err_weaker}
use Rattle.slp_replies.proofs.AuditLines.{line_is_written, line_length, on_err}
use Rattle.slp_replies.specs.Audits.{audit_of, line_text, tail_text}
use Rattle.slp_replies.proofs.audit.write_line.Goals as goal

pub returns-in_err-put_head-clause-err : goal.returns-in_err-put_head-clause-err
returns-in_err-put_head-clause-err g c =
    let f0 = line_length c.args.rule.now (audit_of c.args.audit.now) in
    let f1 = c.in_err-put_head.ensures.err in
    let full : g.S.Sink.room c.args.sink.now ≤ length (line_text c.args.rule.now (audit_of c.args.audit.now)) = omega (arith, f0, f1) in
    on_err _ _ full

pub returns-clause-ok : goal.returns-clause-ok
returns-clause-ok g c =
    let a = audit_of c.args.audit.now in
    subst (λ t. OnOk c.put_tail.result (g.S.Sink.written c.put_tail.new.sink ≡ t))
    (ap (λ w. w ++ tail_text a) c.in_ok-put_head.ensures.ok ∙ line_is_written (g.S.Sink.written c.args.sink.now) c.args.rule.now a)
    c.put_tail.ensures.ok

pub returns-clause-err : goal.returns-clause-err
returns-clause-err g c =
    let f0 = line_length c.args.rule.now (audit_of c.args.audit.now) in
    let f1 = c.in_ok-put_head.ensures.room in
    on_err_weaker c.put_tail.result (λ full. omega (arith, full, f0, f1)) c.put_tail.ensures.err
