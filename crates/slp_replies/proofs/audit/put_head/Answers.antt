use Rattle.std.proofs.Common.{◌≡◌, ◌≤◌, ◌++◌, length, ap, subst, ◌∙◌, arith}
use Rattle.std.specs.Prelude.{OnOk}
use Rattle.std.proofs.lemmas.Result.{on_err_weaker, on_ok_weaker}
use Rattle.slp_replies.proofs.AuditLines.{head_is_written, head_length, on_err}
use Rattle.directory_judge.specs.Judgements.{decider_text}
use Rattle.slp_replies.specs.Audits.{audit_of, beginning_text, head_text}
use Rattle.slp_replies.proofs.audit.put_head.Goals as goal

pub returns-in_err-put_beginning-clause-err : goal.returns-in_err-put_beginning-clause-err
returns-in_err-put_beginning-clause-err g c =
    let f0 = head_length c.args.rule.now (audit_of c.args.audit.now) in
    let f1 = c.in_err-put_beginning.ensures.err in
    let full : g.S.Sink.room c.args.sink.now ≤ length (head_text c.args.rule.now (audit_of c.args.audit.now)) = omega (arith, f0, f1) in
    on_err _ _ full

pub returns-in_err-put_decider-clause-err : goal.returns-in_err-put_decider-clause-err
returns-in_err-put_decider-clause-err g c =
    let f0 = head_length c.args.rule.now (audit_of c.args.audit.now) in
    let f1 = c.in_ok-put_beginning.ensures.room in
    let f2 = c.in_err-put_decider.ensures.err in
    let full : g.S.Sink.room c.args.sink.now ≤ length (head_text c.args.rule.now (audit_of c.args.audit.now)) = omega (arith, f0, f1, f2) in
    on_err _ _ full

pub returns-clause-ok : goal.returns-clause-ok
returns-clause-ok g c =
    let a = audit_of c.args.audit.now in
    let start = g.S.Sink.written c.args.sink.now in
    let decided = c.in_ok-put_decider.ensures.ok ∙ ap (λ w. w ++ decider_text c.args.rule.now a.because.decider) c.in_ok-put_beginning.ensures.ok in
    subst (λ t. OnOk c.put-2.result (g.S.Sink.written c.put-2.new.self ≡ t))
    (ap (λ w. w ++ c.as_bytes-2.result.now) decided ∙ ap (λ e. ((start ++ beginning_text a.code) ++ decider_text c.args.rule.now a.because.decider) ++ e) (c.as_bytes-2.ensures.value ∙ c.action_part.ensures) ∙ head_is_written start c.args.rule.now a)
    c.put-2.ensures.ok

pub returns-clause-room : goal.returns-clause-room
returns-clause-room g c =
    let f0 = head_length c.args.rule.now (audit_of c.args.audit.now) in
    let f1 = c.in_ok-put_beginning.ensures.room in
    let f2 = c.in_ok-put_decider.ensures.room in
    let f3 = ap length (c.as_bytes-2.ensures.value ∙ c.action_part.ensures) in
    on_ok_weaker c.put-2.result (λ room. omega (arith, room, f0, f1, f2, f3)) c.put-2.ensures.room

pub returns-clause-err : goal.returns-clause-err
returns-clause-err g c =
    let f0 = head_length c.args.rule.now (audit_of c.args.audit.now) in
    let f1 = c.in_ok-put_beginning.ensures.room in
    let f2 = c.in_ok-put_decider.ensures.room in
    let f3 = ap length (c.as_bytes-2.ensures.value ∙ c.action_part.ensures) in
    on_err_weaker c.put-2.result (λ full. omega (arith, full, f0, f1, f2, f3)) c.put-2.ensures.err
