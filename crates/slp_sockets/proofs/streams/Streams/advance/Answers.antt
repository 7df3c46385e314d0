use Rattle.std.proofs.Common.{sym, ap, ◌∙◌, subst, arith}
use Rattle.slp_sockets.specs.Holding.{Held, longest_stay}
use Rattle.slp_sockets.specs.Sitting.{seats}
use Rattle.slp_sockets.specs.Turning.{ServesAt}
use Rattle.slp_sockets.proofs.Advancing.{advanced_moments, ended, stayed}
use Rattle.slp_sockets.proofs.Sitting.{moved_sits, removal_len, removal_only, sits_less}
use Rattle.slp_sockets.proofs.streams.Streams.advance.Goals as goal

pub invariant_of-self : goal.invariant_of-self
invariant_of-self g c =
    let on = c.advance_at-told.new.peers in
    let moved = advanced_moments g.S.Serve.manner c.self.inside.moment c.args.key (record { seats = seats c.self.inside.peers; server = c.args.server.now }) (record { seats = seats on; server = c.advance_at-told.new.server }) c.advance_at-told.result c.advance_at-told.ensures.served in (
      omega (arith, c.advance_at-told.ensures.len, c.self.invariant.0),
      omega (arith, c.advance_at-told.ensures.capacity, c.self.invariant.1),
      c.self.invariant.2,
      moved_sits longest_stay c.self.inside.moment c.self.inside.looked (seats c.self.inside.peers) (seats on) moved (omega arith) c.self.invariant.2 c.self.invariant.3,
    )

pub invariant_of-self-2 : goal.invariant_of-self-2
invariant_of-self-2 g c =
    let on = c.advance_at-told.new.peers in
    let gone = c.try_remove.ensures in
    let moved = advanced_moments g.S.Serve.manner c.self.inside.moment c.args.key (record { seats = seats c.self.inside.peers; server = c.args.server.now }) (record { seats = seats on; server = c.advance_at-told.new.server }) c.advance_at-told.result c.advance_at-told.ensures.served in
    let none = moved_sits longest_stay c.self.inside.moment c.self.inside.looked (seats c.self.inside.peers) (seats on) moved (omega arith) c.self.invariant.2 c.self.invariant.3 in (
      omega (arith, removal_len on c.try_remove.new.self c.try_remove.result gone.len gone.absent, c.advance_at-told.ensures.len, c.self.invariant.0),
      omega (arith, gone.capacity, c.advance_at-told.ensures.capacity, c.self.invariant.1),
      c.self.invariant.2,
      sits_less longest_stay c.self.inside.looked (seats on) (seats c.try_remove.new.self) (removal_only on c.try_remove.new.self c.args.key gone.updates) none,
    )

pub returns-clause-served : goal.returns-clause-served
returns-clause-served g c =
    subst (λ ss. ServesAt g.S.Serve.manner c.args.key (record { seats = ss; server = c.args.server.now }) (record { seats = seats c.try_remove.new.self; server = c.advance_at-told.new.server })) (ap (λ (h : Held). h.seats) c.self.view_is)
    (ended g.S.Serve.manner c.self.inside.moment c.args.key (record { seats = seats c.self.inside.peers; server = c.args.server.now }) c.advance_at-told.new.peers c.try_remove.new.self c.advance_at-told.new.server c.advance_at-told.result
    (sym c.is_closed.ensures ∙ c.if-not-is_closed.false) c.try_remove.ensures.updates c.advance_at-told.ensures.served)

pub returns-then-not-is_closed-clause-served : goal.returns-then-not-is_closed-clause-served
returns-then-not-is_closed-clause-served g c =
    subst (λ ss. ServesAt g.S.Serve.manner c.args.key (record { seats = ss; server = c.args.server.now }) (record { seats = seats c.advance_at-told.new.peers; server = c.advance_at-told.new.server })) (ap (λ (h : Held). h.seats) c.self.view_is)
    (stayed g.S.Serve.manner c.self.inside.moment c.args.key (record { seats = seats c.self.inside.peers; server = c.args.server.now }) (record { seats = seats c.advance_at-told.new.peers; server = c.advance_at-told.new.server }) c.advance_at-told.result
    (sym c.is_closed.ensures ∙ c.if-not-is_closed.true) c.advance_at-told.ensures.served)
