use Rattle.std.proofs.Common.{◌≡◌, ◌∷◌, ◌++◌, [], get_or, ap, ◌∙◌, subst}
use Rattle.slp_sockets.specs.Exchanging.{datagram}
use Rattle.slp_sockets.specs.declared.lane.Handed.TheVariants.{Mail}
use Rattle.slp_sockets.proofs.datagrams.give_front.Goals as goal

pub returns-clause-given : goal.returns-clause-given
returns-clause-given g c = λ _.
    let e = c.in-Some-pop_front.first in
    let whole : c.args.aside.now.items ≡ e ∷ c.pop_front.new.self.items = c.in-Some-pop_front.ensures.items in
    let same : c.in-Some.first.now ≡ e = c.in-Some.ensures.lookup ∙ ap (λ es. get_or es 0 c.in-Some.first.now) whole in
    (e, whole, subst g.S.Serve.manner.may_last (c.message.ensures ∙ ap (λ x. (datagram x).bytes) same) (c.is_long.ensures.long c.if-not-is_long.false), c.give.ensures ∙ ap (λ xs. xs ++ Mail e ∷ []) c.has_room.ensures.kept)
