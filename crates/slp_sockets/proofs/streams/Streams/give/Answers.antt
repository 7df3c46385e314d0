use Rattle.std.proofs.Common.{ℕ, List, ap, subst, arith}
use Rattle.slp_sockets.specs.Handing.{AreGiven, given_by}
use Rattle.slp_sockets.specs.Holding.{HasNoOther, Held, longest_stay}
use Rattle.slp_sockets.specs.Sitting.{seats}
use Rattle.slp_sockets.proofs.Sitting.{sits_less}
use Rattle.slp_sockets.proofs.streams.Streams.give.Goals as goal

pub invariant_of-self : goal.invariant_of-self
invariant_of-self g c = (
  omega (arith, c.give_streams.ensures.len, c.self.invariant.0),
  omega (arith, c.give_streams.ensures.capacity, c.self.invariant.1),
  c.self.invariant.2,
  sits_less longest_stay c.self.inside.looked (seats c.self.inside.peers) (seats c.give_streams.new.peers) c.give_streams.ensures.only c.self.invariant.3,
)

pub returns-clause-only : goal.returns-clause-only
returns-clause-only g c = subst (λ ss. HasNoOther ss (seats c.give_streams.new.peers)) (ap (λ (h : Held). h.seats) c.self.view_is) c.give_streams.ensures.only

pub returns-clause-given : goal.returns-clause-given
returns-clause-given g c =
    subst (λ ss. (keys : List ℕ) × AreGiven g.S.Serve.manner (record { seats = ss; gifts = given_by c.args.giver.now }) keys (record { seats = seats c.give_streams.new.peers; gifts = given_by c.give_streams.new.giver })) (ap (λ (h : Held). h.seats) c.self.view_is)
    c.give_streams.ensures.given
