use Rattle.std.proofs.Common.{refl, sym, ap, subst, inl, inr}
use Rattle.slp_sockets.specs.Holding.{Held}
use Rattle.slp_sockets.specs.Turning.{tended}
use Rattle.slp_sockets.proofs.Reaching.{begins, begun_first, resumes_none, taken_up, takes_none}
use Rattle.slp_sockets.proofs.Sitting.{come_then_go}
use Rattle.slp_sockets.proofs.agent_loop.AgentLoop.begin.Goals as goal

pub returns-in_err-waited-clause-served : goal.returns-in_err-waited-clause-served
returns-in_err-waited-clause-served g c =
    begun_first _ _ _
    (begins g.S.Serve.manner (tended c.args.self.now) c.self.inside.streams.seats c.self.inside.streams.seats c.self.inside.streams.seats c.self.inside.streams.seats c.self.inside.streams.seats c.self.inside.server c.settle.new.self c.settle.new.self c.settle.new.self c.settle.new.self
    (ap tended c.self.view_is) c.settle.ensures refl (λ _ _ here. inl here) (λ _ _ here. inl here) (takes_none _ c.settle.new.self) (resumes_none _ _) (inr refl))

pub returns-in_err-accept_again-clause-served : goal.returns-in_err-accept_again-clause-served
returns-in_err-accept_again-clause-served g c =
    begun_first _ _ _
    (begins g.S.Serve.manner (tended c.args.self.now) c.self.inside.streams.seats c.go_on_to.new.self.seats c.accept_again.new.self.seats c.accept_again.new.self.seats c.accept_again.new.self.seats c.self.inside.server c.settle.new.self c.settle.new.self c.settle.new.self c.settle.new.self
    (ap tended c.self.view_is) c.settle.ensures (ap (λ (h : Held). h.seats) c.go_on_to.ensures.kept) c.accept_again.ensures.come (λ _ _ here. inl here) (takes_none _ c.settle.new.self) (resumes_none _ _) (inr refl))

pub returns-in_err-serve_again-clause-served : goal.returns-in_err-serve_again-clause-served
returns-in_err-serve_again-clause-served g c =
    begun_first _ _ _
    (begins g.S.Serve.manner (tended c.args.self.now) c.self.inside.streams.seats c.go_on_to.new.self.seats c.hand_over.new.streams.seats c.take_over.new.streams.seats c.resume.new.self.seats c.self.inside.server c.hand_over.new.server c.take_up.new.server c.resume.new.server c.serve_again.new.server
    (ap tended c.self.view_is) (subst (λ s. g.S.Serve.manner.settles c.self.inside.server s) (sym c.hand_over.ensures.server) c.settle.ensures) (ap (λ (h : Held). h.seats) c.go_on_to.ensures.kept)
    (come_then_go c.go_on_to.new.self.seats c.accept_again.new.self.seats c.hand_over.new.streams.seats c.accept_again.ensures.come c.hand_over.ensures.only) c.take_over.ensures.joins
    (taken_up g.S.Serve.manner _ _ _ c.hand_over.new.server c.take_up.new.server _ _ c.take_up.ensures) c.resume.ensures.served c.serve_again.ensures.served)

pub returns-clause-served : goal.returns-clause-served
returns-clause-served g c =
    begun_first _ _ _
    (begins g.S.Serve.manner (tended c.args.self.now) c.self.inside.streams.seats c.go_on_to.new.self.seats c.hand_over.new.streams.seats c.take_over.new.streams.seats c.resume.new.self.seats c.self.inside.server c.hand_over.new.server c.take_up.new.server c.resume.new.server c.serve_again.new.server
    (ap tended c.self.view_is) (subst (λ s. g.S.Serve.manner.settles c.self.inside.server s) (sym c.hand_over.ensures.server) c.settle.ensures) (ap (λ (h : Held). h.seats) c.go_on_to.ensures.kept)
    (come_then_go c.go_on_to.new.self.seats c.accept_again.new.self.seats c.hand_over.new.streams.seats c.accept_again.ensures.come c.hand_over.ensures.only) c.take_over.ensures.joins
    (taken_up g.S.Serve.manner _ _ _ c.hand_over.new.server c.take_up.new.server _ _ c.take_up.ensures) c.resume.ensures.served c.serve_again.ensures.served)

pub returns-clause-begun : goal.returns-clause-begun
returns-clause-begun g c =
    begins g.S.Serve.manner (tended c.args.self.now) c.self.inside.streams.seats c.go_on_to.new.self.seats c.hand_over.new.streams.seats c.take_over.new.streams.seats c.resume.new.self.seats c.self.inside.server c.hand_over.new.server c.take_up.new.server c.resume.new.server c.serve_again.new.server
    (ap tended c.self.view_is) (subst (λ s. g.S.Serve.manner.settles c.self.inside.server s) (sym c.hand_over.ensures.server) c.settle.ensures) (ap (λ (h : Held). h.seats) c.go_on_to.ensures.kept)
    (come_then_go c.go_on_to.new.self.seats c.accept_again.new.self.seats c.hand_over.new.streams.seats c.accept_again.ensures.come c.hand_over.ensures.only) c.take_over.ensures.joins
    (taken_up g.S.Serve.manner _ _ _ c.hand_over.new.server c.take_up.new.server _ _ c.take_up.ensures) c.resume.ensures.served c.serve_again.ensures.served
