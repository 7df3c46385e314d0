use Rattle.std.proofs.Common.{sym, ap, ◌∙◌, subst, arith}
use Rattle.slp_sockets.specs.Holding.{NoneSits, least_stay, longest_stay, moment_of}
use Rattle.slp_sockets.specs.Sitting.{seats}
use Rattle.slp_sockets.proofs.Sitting.{sits_less, none_longer}
use Rattle.slp_sockets.proofs.streams.Streams.give_place.Goals as goal

pub invariant_of-self : goal.invariant_of-self
invariant_of-self c =
    let closed = c.close_where_still.ensures in (
      omega (arith, closed.len, c.self.invariant.0),
      omega (arith, closed.capacity, c.self.invariant.1),
      c.self.invariant.2,
      sits_less longest_stay c.self.inside.looked (seats c.self.inside.peers) (seats c.close_where_still.new.peers) closed.only c.self.invariant.3,
    )

pub returns-clause-gives : goal.returns-clause-gives
returns-clause-gives c = λ no.
    let closed = c.close_where_still.ensures in
    subst (λ p. NoneSits least_stay c.self.inside.moment (seats p)) (sym (closed.same no))
    (none_longer (seats c.self.inside.peers) c.stillest-key.result c.self.inside.moment least_stay c.stillest-key.ensures (λ at is. closed.closed at (ap (λ p. moment_of (seats p) c.stillest-key.result) (closed.same no) ∙ is)))
