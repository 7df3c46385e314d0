use Rattle.std.proofs.Common.{◌++◌, ◌∷◌, [], map, refl, ap, ◌∙◌, subst, sym}
use Rattle.std.proofs.lemmas.List.{map_push}
use Rattle.rtrb.specs.Ring.{sent}
use Rattle.slp_sockets.specs.Exchanging.{datagram, datagrams}
use Rattle.slp_sockets.specs.Handing.{AreMailed, gift, given_by}
use Rattle.slp_sockets.specs.declared.lane.Handed.TheVariants.{Mail}
use Rattle.slp_sockets.proofs.Handing.{mailed_more}
use Rattle.slp_sockets.proofs.datagrams.give_all.Goals as goal

pub loop-preserved : goal.loop-preserved
loop-preserved g c =
    let one = c.loop-test.ensures.given refl in
    let before = c.loop.invariant.given in
    let gifts = ap (map gift) one.3 ∙ map_push gift (sent c.loop.giver.producer) (Mail one.0) in record {
      server = c.give_front.ensures.server ∙ c.loop.invariant.server;
      given = (
        before.0 ++ datagram one.0 ∷ [],
        subst (λ has. AreMailed g.S.Serve.manner (datagrams c.args.aside.now.items) (given_by c.args.giver.now) (before.0 ++ datagram one.0 ∷ []) has (datagrams c.give_front.new.aside.items)) (sym gifts)
            (mailed_more g.S.Serve.manner (datagrams c.args.aside.now.items) (given_by c.args.giver.now) before.0 (given_by c.loop.giver) (datagrams c.loop.aside.items) (datagrams c.give_front.new.aside.items) (datagram one.0) before.1 (ap datagrams one.1) one.2),
      );
    }
