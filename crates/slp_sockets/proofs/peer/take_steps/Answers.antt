use Rattle.std.proofs.Common.{Ok, Err, sym, ◌∙◌}
use Rattle.std.proofs.lemmas.Result.{err_from_is_err_and}
use Rattle.slp_sockets.proofs.Streaming.{talk, next_waits, left_aside, is_read, is_step, read_failed, write_failed, ended, went_on, over}
use Rattle.slp_sockets.proofs.peer.take_steps.Goals as goal

pub returns-then-is_next-has_served : goal.returns-then-is_next-has_served
returns-then-is_next-has_served g c =
    c.loop.invariant (Ok _) _
    (next_waits g.S.Serve.manner c.loop.counter c.loop-test.true c.loop.has_served (talk g.T.Read.remaining g.T.Write.contents c.loop.stream c.loop.connection c.loop.server) c.has_message-is_next.result c.has_message-is_next.ensures c.if-is_next-has_served.true)

pub returns-in_err-read : goal.returns-in_err-read
returns-in_err-read g c =
    let p = err_from_is_err_and c.from_residual.result c.from_residual.ensures.1 in
    let e = c.in_err-read.field-0.0 in
    rw (p.1, p.2) (c.loop.invariant (Err e) (talk g.T.Read.remaining g.T.Write.contents c.on_readable.new.reader c.on_readable.new.self c.on_readable.new.server)
    (read_failed g.S.Serve.manner c.loop.counter c.loop-test.true c.loop.has_served (talk g.T.Read.remaining g.T.Write.contents c.loop.stream c.loop.connection c.loop.server) c.has_message-is_next.result c.has_message-is_next.ensures c.if-is_next-has_served.false e (talk g.T.Read.remaining g.T.Write.contents c.on_readable.new.reader c.on_readable.new.self c.on_readable.new.server)
    (is_read g.T.Read.remaining g.T.Write.contents g.S.Serve.manner c.loop.stream c.on_readable.new.reader c.loop.connection c.on_readable.new.self c.loop.server c.is_put_aside.new.server c.on_readable.new.server (Err e) c.is_put_aside.ensures.kept c.in_err-read.ensures.unread c.in_err-read.ensures.reads)))

pub returns-in_err-written : goal.returns-in_err-written
returns-in_err-written g c =
    let p = err_from_is_err_and c.from_residual-in_err-written.result c.from_residual-in_err-written.ensures.1 in
    let e = c.in_err-written.field-0.0 in
    rw (p.1, p.2) (c.loop.invariant (Err e) (talk g.T.Read.remaining g.T.Write.contents c.on_writable.new.writer c.on_writable.new.self c.settle-settled.new.server)
    (write_failed g.S.Serve.manner c.loop.counter c.loop-test.true c.loop.has_served (talk g.T.Read.remaining g.T.Write.contents c.loop.stream c.loop.connection c.loop.server) c.has_message-is_next.result c.has_message-is_next.ensures c.if-is_next-has_served.false c.in_ok-read.read e (talk g.T.Read.remaining g.T.Write.contents c.on_writable.new.writer c.on_writable.new.self c.settle-settled.new.server)
    (is_step g.T.Read.remaining g.T.Write.contents g.S.Serve.manner c.loop.stream c.on_readable.new.reader c.on_writable.new.writer c.loop.connection c.on_readable.new.self c.on_writable.new.self c.loop.server c.on_readable.new.server c.settle-settled.new.server c.in_ok-read.read (Err e)
    (is_read g.T.Read.remaining g.T.Write.contents g.S.Serve.manner c.loop.stream c.on_readable.new.reader c.loop.connection c.on_readable.new.self c.loop.server c.is_put_aside.new.server c.on_readable.new.server (Ok c.in_ok-read.read) c.is_put_aside.ensures.kept c.in_ok-read.ensures.unread c.in_ok-read.ensures.reads) c.settle-settled.ensures c.in_err-written.ensures.unwritten c.in_err-written.ensures.wrote c.in_err-written.ensures.writes)))

pub returns-in-Some : goal.returns-in-Some
returns-in-Some g c =
    c.loop.invariant (Ok c.in-Some.next) (talk g.T.Read.remaining g.T.Write.contents c.on_writable.new.writer c.on_writable.new.self c.settle-settled.new.server)
    (ended g.S.Serve.manner c.loop.counter c.loop-test.true c.loop.has_served (talk g.T.Read.remaining g.T.Write.contents c.loop.stream c.loop.connection c.loop.server) c.has_message-is_next.result c.has_message-is_next.ensures c.if-is_next-has_served.false c.in_ok-read.read c.in_ok-written.written c.in-Some.next (talk g.T.Read.remaining g.T.Write.contents c.on_writable.new.writer c.on_writable.new.self c.settle-settled.new.server)
    (is_step g.T.Read.remaining g.T.Write.contents g.S.Serve.manner c.loop.stream c.on_readable.new.reader c.on_writable.new.writer c.loop.connection c.on_readable.new.self c.on_writable.new.self c.loop.server c.on_readable.new.server c.settle-settled.new.server c.in_ok-read.read (Ok c.in_ok-written.written)
    (is_read g.T.Read.remaining g.T.Write.contents g.S.Serve.manner c.loop.stream c.on_readable.new.reader c.loop.connection c.on_readable.new.self c.loop.server c.is_put_aside.new.server c.on_readable.new.server (Ok c.in_ok-read.read) c.is_put_aside.ensures.kept c.in_ok-read.ensures.unread c.in_ok-read.ensures.reads) c.settle-settled.ensures c.in_ok-written.ensures.unwritten c.in_ok-written.ensures.wrote c.in_ok-written.ensures.writes) (sym c.end_of.ensures ∙ c.in-Some.is))

pub loop-preserved : goal.loop-preserved
loop-preserved g c = λ told b rest.
    c.loop.invariant told b
    (went_on g.S.Serve.manner c.loop.counter c.loop-test.true c.loop.has_served (talk g.T.Read.remaining g.T.Write.contents c.loop.stream c.loop.connection c.loop.server) c.has_message-is_next.result c.has_message-is_next.ensures c.if-is_next-has_served.false c.in_ok-read.read c.in_ok-written.written (talk g.T.Read.remaining g.T.Write.contents c.on_writable.new.writer c.on_writable.new.self c.settle-settled.new.server)
    (is_step g.T.Read.remaining g.T.Write.contents g.S.Serve.manner c.loop.stream c.on_readable.new.reader c.on_writable.new.writer c.loop.connection c.on_readable.new.self c.on_writable.new.self c.loop.server c.on_readable.new.server c.settle-settled.new.server c.in_ok-read.read (Ok c.in_ok-written.written)
    (is_read g.T.Read.remaining g.T.Write.contents g.S.Serve.manner c.loop.stream c.on_readable.new.reader c.loop.connection c.on_readable.new.self c.loop.server c.is_put_aside.new.server c.on_readable.new.server (Ok c.in_ok-read.read) c.is_put_aside.ensures.kept c.in_ok-read.ensures.unread c.in_ok-read.ensures.reads) c.settle-settled.ensures c.in_ok-written.ensures.unwritten c.in_ok-written.ensures.wrote c.in_ok-written.ensures.writes) (sym c.end_of.ensures ∙ c.in_default.is) told b rest)

pub returns : goal.returns
returns g c = c.loop.invariant (Ok _) _ (over g.S.Serve.manner c.loop.counter c.loop.has_served c.loop-test.false (talk g.T.Read.remaining g.T.Write.contents c.loop.stream c.loop.connection c.loop.server))

pub returns-then-is_put_aside : goal.returns-then-is_put_aside
returns-then-is_put_aside g c =
    rw c.is_put_aside.ensures.kept
    (c.loop.invariant (Ok _) _
    (left_aside g.S.Serve.manner c.loop.counter c.loop-test.true c.loop.has_served (talk g.T.Read.remaining g.T.Write.contents c.loop.stream c.loop.connection c.loop.server) c.has_message-is_next.result c.has_message-is_next.ensures (c.is_put_aside.ensures.may c.if-is_put_aside.true).0 (c.is_put_aside.ensures.may c.if-is_put_aside.true).1))
