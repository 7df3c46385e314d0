use Rattle.std.proofs.Common.{◌≡◌, ℕ, List, [], refl, sym, ap, subst}
use Rattle.slp_stream.specs.Framing.{Frames}
use Rattle.slp_script.specs.Commands.{Single}
use Rattle.slp_script.specs.declared.command.Order.{Order}
use Rattle.slp_script.specs.declared.command.Order.TheVariants.{Blank, At, From, Loop, Udp, Open, Tcp, Sweep}
use Rattle.replay_program.specs.Sessions.{Acts}
use Rattle.replay_program.specs.declared.session.Session.{Session}
use Rattle.replay_program.proofs.Transfers.{Appends-none}
use Rattle.replay_program.proofs.CommandsDone.{Acts-at, Acts-from, Acts-open}
use Rattle.replay_program.proofs.progress.carry_out.Goals as goal

Acts-order : (s : Session) (o p : Order) (now : List ℕ) (t : Session) → o ≡ p → Acts s (Single p) now t → Acts s (Single o) now t
Acts-order s o p now t is h = subst (λ x. Acts s (Single x) now t) (sym is) h

pub returns-in-At : goal.returns-in-At
returns-in-At g c =
    ([], Appends-none _, Acts-order c.args.session.now c.args.order (At c.in-At.moment) [] _ c.in-At.is (Acts-at _ _ c.in-At.moment refl))

pub returns-in-From : goal.returns-in-From
returns-in-From g c =
    ([], Appends-none _, Acts-order c.args.session.now c.args.order (From c.in-From.asker) [] _ c.in-From.is (Acts-from _ _ c.in-From.asker refl))

pub returns-in_ok-move_to_loop-in-Loop : goal.returns-in_ok-move_to_loop-in-Loop
returns-in_ok-move_to_loop-in-Loop g c =
    ([], Appends-none _, Acts-order c.args.session.now c.args.order (Loop c.in-Loop.named) [] _ c.in-Loop.is c.in_ok-move_to_loop-in-Loop.ensures)

pub returns-in_ok-take_datagram-in-Udp : goal.returns-in_ok-take_datagram-in-Udp
returns-in_ok-take_datagram-in-Udp g c =
    let done = c.in_ok-take_datagram-in-Udp.ensures in
    (done.0, done.1, Acts-order c.args.session.now c.args.order (Udp c.in-Udp.bytes) done.0 _ c.in-Udp.is done.2)

pub returns-in-Open : goal.returns-in-Open
returns-in-Open g c =
    ([], Appends-none _, Acts-order c.args.session.now c.args.order Open [] _ c.in-Open.is (Acts-open _ _ (ap (λ (f : Frames). record c.args.session.now { stream = f }) c.new.ensures)))

pub returns-in-Blank : goal.returns-in-Blank
returns-in-Blank g c =
    ([], Appends-none _, Acts-order c.args.session.now c.args.order Blank [] _ c.in-Blank.is (λ w h. (w, (refl, refl), h)))

pub returns-in_ok-take_stream-in-Tcp : goal.returns-in_ok-take_stream-in-Tcp
returns-in_ok-take_stream-in-Tcp g c =
    let done = c.in_ok-take_stream-in-Tcp.ensures in
    (done.0, done.1, Acts-order c.args.session.now c.args.order (Tcp c.in-Tcp.bytes) done.0 _ c.in-Tcp.is done.2)

pub returns-in_ok-sweep-in-Sweep : goal.returns-in_ok-sweep-in-Sweep
returns-in_ok-sweep-in-Sweep g c =
    let done = c.in_ok-sweep-in-Sweep.ensures in
    (done.0, done.1, Acts-order c.args.session.now c.args.order Sweep done.0 _ c.in-Sweep.is done.2)
