use Rattle.std.proofs.Common.{◌++◌, ◌∷◌, ◌≡◌, [], map, refl, sym, ap, ◌∙◌, subst, inl, true, None}
use Rattle.std.specs.Option.{option_map}
use Rattle.std.proofs.lemmas.List.{map_push}
use Rattle.std.proofs.lemmas.Option.{same_Some}
use Rattle.rtrb.specs.Ring.{sent}
use Rattle.slp_sockets.specs.Handing.{Talker, gift, given_by}
use Rattle.slp_sockets.specs.Holding.{Seat}
use Rattle.slp_sockets.specs.Linking.{has_message}
use Rattle.slp_sockets.specs.Sitting.{seat}
use Rattle.slp_sockets.specs.declared.lane.Handed.TheVariants.{Stream}
use Rattle.slp_sockets.proofs.Sitting.{beside, removal_only, seat_is, there}
use Rattle.slp_sockets.proofs.lane.give_at.Goals as goal

pub returns-clause-only : goal.returns-clause-only
returns-clause-only g c = removal_only c.args.peers.now c.try_remove.new.self c.args.key c.try_remove.ensures.updates

pub returns-clause-given : goal.returns-clause-given
returns-clause-given g c =
    let old = c.args.peers.now in
    let new = c.try_remove.new.self in
    let key = c.args.key in
    let gone = c.try_remove.ensures.updates in
    let p = c.in-Some.peer in
    let q = c.wait_no_more.new.self in
    let long = c.is_long_at.ensures.long c.if-not-is_long_at.false in
    let here = seat_is old key ∙ ap (option_map seat) (sym c.in-Some.ensures.value) in
    let same : long.0 ≡ seat p = same_Some long.0 (seat p) (sym long.1 ∙ here) in inl (record {
      stream = seat p;
      here = here;
      front = subst (λ (s : Seat). has_message s.link ≡ true) same long.2;
      long = subst (λ (s : Seat). g.S.Serve.manner.may_last s.link.unserved) same long.3;
      gone = there old new key None key gone refl;
      given =
          ap (map gift) (c.give.ensures ∙ ap (λ xs. xs ++ Stream q ∷ []) c.has_room.ensures.kept) ∙ (map_push gift (sent c.args.giver.now.producer) (Stream q) ∙ ap (λ s. given_by c.args.giver.now ++ Talker s ∷ []) c.wait_no_more.ensures);
      others = λ other differs. beside old new key None other gone differs;
    })
