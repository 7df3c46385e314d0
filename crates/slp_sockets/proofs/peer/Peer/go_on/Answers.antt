use Rattle.std.proofs.Common.{Ok, Err, refl, ap, ◌∙◌}
use Rattle.std.proofs.lemmas.Result.{err_from_is_err_and}
use Rattle.slp_sockets.proofs.Advancing.{gone_on, tells_fault, tells_none}
use Rattle.slp_sockets.proofs.peer.Peer.go_on.Goals as goal

pub returns-in_err-next : goal.returns-in_err-next
returns-in_err-next g c =
    let p = err_from_is_err_and c.from_residual.result c.from_residual.ensures.1 in
    gone_on g.S.Serve.manner c.args.self.now c.advance.new.self c.advance.new.self c.args.now c.args.server.now c.advance.new.server _ _ _ _ c.advance.result _ c.advance.ensures refl
    (tells_fault c.advance.result c.from_residual.result c.in_err-next.field-0.0 c.in_err-next.was (p.1 ∙ ap (λ e. Err e) p.2))

pub returns-in_err-wait_again : goal.returns-in_err-wait_again
returns-in_err-wait_again g c =
    let p = err_from_is_err_and c.from_residual-in_err-wait_again.result c.from_residual-in_err-wait_again.ensures.1 in
    gone_on g.S.Serve.manner c.args.self.now c.advance.new.self c.wait_again.new.self c.args.now c.args.server.now c.advance.new.server _ _ _ _ c.advance.result _ c.advance.ensures c.wait_again.ensures
    (tells_none c.advance.result c.from_residual-in_err-wait_again.result p.0 (c.in_ok-next.was ∙ ap (λ n. Ok n) c.in-More.is) p.1 p.2)

pub returns-in_ok-wait_again : goal.returns-in_ok-wait_again
returns-in_ok-wait_again g c =
    gone_on g.S.Serve.manner c.args.self.now c.advance.new.self c.wait_again.new.self c.args.now c.args.server.now c.advance.new.server _ _ _ _ c.advance.result (Ok c.in_ok-next.next) c.advance.ensures c.wait_again.ensures c.in_ok-next.was

pub returns-in_default : goal.returns-in_default
returns-in_default g c =
    gone_on g.S.Serve.manner c.args.self.now c.advance.new.self c.advance.new.self c.args.now c.args.server.now c.advance.new.server _ _ _ _ c.advance.result (Ok c.in_ok-next.next) c.advance.ensures refl c.in_ok-next.was
