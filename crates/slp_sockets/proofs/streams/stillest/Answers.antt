use Rattle.std.proofs.Common.{◌+◌, sym, ap, ◌∙◌, subst, arith}
use Rattle.std.proofs.lemmas.Option.{none-some}
use Rattle.slp_sockets.specs.Holding.{stiller}
use Rattle.slp_sockets.specs.Sitting.{seats}
use Rattle.slp_sockets.proofs.Sitting.{Found, found_more, within_slots}
use Rattle.slp_sockets.proofs.streams.stillest.Goals as goal

pub loop-key-init : goal.loop-key-init
loop-key-init c = record {
  none = λ key at lt is. absurd (omega (arith, lt));
  is = λ first is. absurd (none-some first is);
}

pub loop-key-preserved : goal.loop-key-preserved
loop-key-preserved c =
    subst (Found (seats c.args.peers.now) (c.loop-key.key + 1)) (ap (λ o. stiller c.loop-key.found c.loop-key.key o) (sym c.moved_at.ensures) ∙ sym c.stiller-found.ensures)
    (found_more (seats c.args.peers.now) c.loop-key.key c.loop-key.found c.loop-key.invariant)

pub returns : goal.returns
returns c = λ key at is.
    let slot = within_slots c.args.peers.now key at is in
    let f = c.loop-key.invariant.none key at (omega (arith, slot, c.capacity-key-end.ensures.slots, c.loop-key-test.false)) is in
    (f.0, c.loop-key.invariant.is f.0 f.1, f.2)
