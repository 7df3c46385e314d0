use Rattle.std.proofs.Common.{◌≡◌, ◌≤◌, ◌+◌, ◌++◌, codes, length, ap, subst, ◌∙◌}
use Rattle.std.specs.Prelude.{OnOk, OnErr}
use Rattle.std.specs.Fmt.{decimal}
use Rattle.slp_replies.proofs.AuditLines.{allows, denies, three_parts}
use Rattle.slp_replies.proofs.audit.put_beginning.Goals as goal

pub returns-then-code-eq0-clause-ok : goal.returns-then-code-eq0-clause-ok
returns-then-code-eq0-clause-ok g c = rw (allows c.args.code c.if-code-eq0.true) at c.put.ensures.ok

pub returns-then-code-eq0-clause-room : goal.returns-then-code-eq0-clause-room
returns-then-code-eq0-clause-room g c =
    subst (λ n. OnOk c.put.result (g.S.Sink.room c.args.sink.now ≤ g.S.Sink.room c.put.new.self + n)) (ap length (allows c.args.code c.if-code-eq0.true)) c.put.ensures.room

pub returns-then-code-eq0-clause-err : goal.returns-then-code-eq0-clause-err
returns-then-code-eq0-clause-err g c =
    subst (λ n. OnErr c.put.result (g.S.Sink.room c.args.sink.now ≤ n)) (ap length (allows c.args.code c.if-code-eq0.true)) c.put.ensures.err

pub returns-clause-ok : goal.returns-clause-ok
returns-clause-ok g c =
    let start = g.S.Sink.written c.args.sink.now in
    subst (λ t. OnOk c.put-3.result (g.S.Sink.written c.put-3.new.self ≡ t))
    (ap (λ w. w ++ codes " by=") (c.in_ok-put_number.ensures.ok ∙ ap (λ w. w ++ decimal c.args.code) c.in_ok-put.ensures.ok)
    ∙ three_parts start (codes "# deny code=") (decimal c.args.code) (codes " by=") ∙ ap (λ t. start ++ t) (denies c.args.code c.if-code-eq0.false))
    c.put-3.ensures.ok
