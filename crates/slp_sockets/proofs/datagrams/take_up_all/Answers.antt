use Rattle.std.proofs.Common.{true, false, refl, sym, subst}
use Rattle.slp_sockets.specs.Exchanging.{back, datagram, datagrams}
use Rattle.slp_sockets.specs.Ports.{AreStillAside, IsTimed}
use Rattle.slp_sockets.proofs.Exchanges.{TookUp, took_more, took_none, took_up}
use Rattle.slp_sockets.proofs.Ports.{still_late}
use Rattle.slp_sockets.proofs.datagrams.take_up_all.Goals as goal

pub loop-first-init : goal.loop-first-init
loop-first-init g c = took_none g.P.Port.may g.S.Serve.manner c.args.port.now (record { server = c.args.server.now; is_late = false }) (datagrams c.args.aside.now.items)

pub returns-then-is_late : goal.returns-then-is_late
returns-then-is_late g c =
    let may = g.P.Port.may in
    let manner = g.S.Serve.manner in
    let x = c.serve_timed-is_late in
    let aside = datagrams c.args.aside.now.items in
    let left = datagrams c.next_aside.new.aside.items in
    let timed = subst (λ b. IsTimed manner c.loop-first.server (datagram c.in-Some.first) (back x.new.self) (record { server = x.new.server; is_late = b })) c.if-is_late.true x.ensures.served in
    took_up may manner c.args.port.now c.send.new.port c.args.server.now c.settle.new.server true aside left
    (took_more may manner c.args.port.now c.loop-first.port c.send.new.port (record { server = c.args.server.now; is_late = false }) (record { server = c.loop-first.server; is_late = false }) (record { server = x.new.server; is_late = true }) c.settle.new.server aside
    c.loop-first.aside.items c.next_aside.new.aside.items c.in-Some.first x.new.self c.in-Some.ensures x.ensures.kept refl timed c.settle.ensures c.send.ensures c.loop-first.invariant) (still_late manner left)

pub loop-first-preserved : goal.loop-first-preserved
loop-first-preserved g c =
    let manner = g.S.Serve.manner in
    let x = c.serve_timed-is_late in
    let timed = subst (λ b. IsTimed manner c.loop-first.server (datagram c.in-Some.first) (back x.new.self) (record { server = x.new.server; is_late = b })) c.if-is_late.false x.ensures.served in
    took_more g.P.Port.may manner c.args.port.now c.loop-first.port c.send.new.port (record { server = c.args.server.now; is_late = false }) (record { server = c.loop-first.server; is_late = false }) (record { server = x.new.server; is_late = false }) c.settle.new.server (datagrams c.args.aside.now.items)
    c.loop-first.aside.items c.next_aside.new.aside.items c.in-Some.first x.new.self c.in-Some.ensures x.ensures.kept refl timed c.settle.ensures c.send.ensures c.loop-first.invariant

pub returns : goal.returns
returns g c =
    let may = g.P.Port.may in
    let manner = g.S.Serve.manner in
    let aside = datagrams c.args.aside.now.items in
    let left = c.next_aside.new.aside.items in
    let same = sym c.in_default.ensures.0 in
    took_up may manner c.args.port.now c.loop-first.port c.args.server.now c.loop-first.server false aside (datagrams left)
    (subst (λ es. TookUp may manner c.args.port.now (record { server = c.args.server.now; is_late = false }) aside c.loop-first.port (record { server = c.loop-first.server; is_late = false }) (datagrams es)) same c.loop-first.invariant)
    (subst (λ es. AreStillAside manner false (datagrams es)) same c.in_default.ensures.1)
