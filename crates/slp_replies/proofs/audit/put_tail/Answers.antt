use Rattle.std.proofs.Common.{◌≡◌, ◌≤◌, ◌++◌, length, ap, subst, ◌∙◌, arith}
use Rattle.std.specs.Prelude.{OnOk}
use Rattle.std.proofs.lemmas.Result.{on_err_weaker}
use Rattle.slp_replies.proofs.AuditLines.{on_err, tail_is_written, tail_length}
use Rattle.slp_replies.specs.Audits.{audit_of, ending_text, tail_text, text_or_dash}
use Rattle.slp_replies.proofs.audit.put_tail.Goals as goal

pub returns-in_err-put_asker-clause-err : goal.returns-in_err-put_asker-clause-err
returns-in_err-put_asker-clause-err g c =
    let f0 = tail_length (audit_of c.args.audit.now) in
    let f1 = c.in_err-put_asker.ensures.err in
    let full : g.S.Sink.room c.args.sink.now ≤ length (tail_text (audit_of c.args.audit.now)) = omega (arith, f0, f1) in
    on_err _ _ full

pub returns-clause-ok : goal.returns-clause-ok
returns-clause-ok g c =
    let a = audit_of c.args.audit.now in
    subst (λ t. OnOk c.put_subject.result (g.S.Sink.written c.put_subject.new.sink ≡ t))
    (ap (λ w. w ++ (text_or_dash a.because.kind ++ ending_text a.because.scope)) c.in_ok-put_asker.ensures.ok ∙ tail_is_written (g.S.Sink.written c.args.sink.now) a)
    c.put_subject.ensures.ok

pub returns-clause-err : goal.returns-clause-err
returns-clause-err g c =
    let f0 = tail_length (audit_of c.args.audit.now) in
    let f1 = c.in_ok-put_asker.ensures.room in
    on_err_weaker c.put_subject.result (λ full. omega (arith, full, f0, f1)) c.put_subject.ensures.err
