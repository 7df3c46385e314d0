use Rattle.std.proofs.Common.{◌<◌, sym, ap, subst, arith}
use Rattle.slp_sockets.specs.Holding.{HasNoOther, Held, KeepsOthers, Seat, least_stay, longest_stay}
use Rattle.slp_sockets.specs.Sitting.{seats}
use Rattle.slp_sockets.specs.Turning.{Keeps}
use Rattle.slp_sockets.proofs.Sitting.{insertion_keeps, insertion_only, insertion_sits}
use Rattle.slp_sockets.proofs.streams.Streams.keep.Goals as goal

pub invariant_of-self : goal.invariant_of-self
invariant_of-self c =
    let put = c.insert_reserved.ensures in
    let room : c.has_place.new.self.held < c.has_place.new.self.limit = c.has_place.ensures.room c.if-not-has_place.false in
    let came = ap (λ (s : Seat). s.moved) c.wait.ensures in
    let now = ap (λ (h : Held). h.moment) c.self.view_is in (
      omega (arith, put.len, room, ap (λ (h : Held). h.held) c.self.view_is, ap (λ (h : Held). h.limit) c.self.view_is),
      omega (arith, put.capacity, c.self.invariant.1),
      c.self.invariant.2,
      insertion_sits c.self.inside.peers c.insert_reserved.new.self c.insert_reserved.result longest_stay c.self.inside.looked c.wait.new.self (omega arith) (omega (arith, c.self.invariant.2, came, c.requires.now, c.has_place.ensures.moment, now)) put.updates c.self.invariant.3,
    )

pub returns-clause-keeps : goal.returns-clause-keeps
returns-clause-keeps c =
    let was = ap (λ (h : Held). h.seats) c.self.view_is in
    let only = subst (HasNoOther c.args.self.now.seats) (sym was) c.has_place.ensures.only in
    subst (λ (s : Seat). Keeps s c.args.self.now.seats (seats c.insert_reserved.new.self)) c.wait.ensures
    (insertion_only c.self.inside.peers c.insert_reserved.new.self c.insert_reserved.result c.wait.new.self c.args.self.now.seats c.insert_reserved.ensures.updates only)

pub returns-clause-kept : goal.returns-clause-kept
returns-clause-kept c =
    let was = ap (λ (h : Held). h.seats) c.self.view_is in
    let kept = subst (KeepsOthers least_stay c.args.self.now.moment c.args.self.now.seats) (sym was) c.has_place.ensures.kept in
    insertion_keeps c.self.inside.peers c.insert_reserved.new.self c.insert_reserved.result c.wait.new.self c.args.self.now.seats least_stay c.args.self.now.moment c.insert_reserved.ensures.updates c.insert_reserved.ensures.was_vacant kept
