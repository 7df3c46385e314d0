use Rattle.std.proofs.Common.{◌++◌, ◌∷◌, [], sym, ap₂, ◌∙◌, subst, arith, inl, inr}
use Rattle.slp_sockets.specs.Handing.{AreGiven, Handing, given_by}
use Rattle.slp_sockets.specs.Sitting.{seats}
use Rattle.slp_sockets.proofs.Handing.{given_more}
use Rattle.slp_sockets.proofs.Sitting.{only_again}
use Rattle.slp_sockets.proofs.lane.give_streams.Goals as goal

pub loop-key-preserved : goal.loop-key-preserved
loop-key-preserved g c =
    let before = c.loop-key.invariant in
    let manner = g.S.Serve.manner in
    let first : Handing = record { seats = seats c.args.peers.now; gifts = given_by c.args.giver.now } in
    let was : Handing = record { seats = seats c.loop-key.peers; gifts = given_by c.loop-key.giver } in
    let is : Handing = record { seats = seats c.give_at.new.peers; gifts = given_by c.give_at.new.giver } in record {
      server = c.give_at.ensures.server ∙ before.server;
      len = omega (arith, c.give_at.ensures.len, before.len);
      capacity = c.give_at.ensures.capacity ∙ before.capacity;
      only = only_again (seats c.args.peers.now) (seats c.loop-key.peers) (seats c.give_at.new.peers) before.only c.give_at.ensures.only;
      given = elim c.give_at.ensures.given [
        | inl one ↦ (before.given.0 ++ c.loop-key.key ∷ [], given_more manner first before.given.0 c.loop-key.key was is before.given.1 one)
        | inr same ↦ (before.given.0, subst (λ (h : Handing). AreGiven manner first before.given.0 h) (ap₂ (λ ss gs. record { seats = ss; gifts = gs }) (sym same.0) (sym same.1)) before.given.1)
      ];
    }
