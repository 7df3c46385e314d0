use Rattle.std.proofs.Common.{take, ◌∷◌, [], refl, ap, ◌∙◌, subst}
use Rattle.agent_watch.specs.Words.{Hears, Takes, TakesLast, piece_in}
use Rattle.agent_watch.specs.declared.words.End.TheVariants.{Well}
use Rattle.agent_watch.proofs.Lines.{hears_last, hears_end, hears_more}
use Rattle.agent_watch.proofs.words.hear.Goals as goal

pub loop-init : goal.loop-init
loop-init g c = λ rs end told after gives hears. (rs, gives, subst (λ l. Hears g.A.Act.acts c.args.actor.now l rs told after) c.new-line.ensures hears)

pub loop-preserved : goal.loop-preserved
loop-preserved g c = λ rs end told after gives hears.
    let r = c.next_piece.ensures.given in
    let bytes = take c.in-Ok.count c.next_piece.new.chunk in
    let is = r.2 ∙ ap (piece_in c.next_piece.new.chunk) c.in-Ok.is in
    let takes = subst (λ b. Takes g.A.Act.acts c.loop.actor c.loop.line bytes b c.take_bytes.new.line c.take_bytes.new.actor) c.if-not-take_bytes.false c.take_bytes.ensures in
    c.loop.invariant (r.0 ∷ rs) end told after (c.next_piece.new.input, r.1, gives) (hears_more g.A.Act.acts c.loop.actor c.take_bytes.new.actor after c.loop.line c.take_bytes.new.line bytes r.0 rs told is takes hears)

pub returns-then-not-take_bytes : goal.returns-then-not-take_bytes
returns-then-not-take_bytes g c =
    let r = c.next_piece.ensures.given in
    let bytes = take c.in-Ok.count c.next_piece.new.chunk in
    let is = r.2 ∙ ap (piece_in c.next_piece.new.chunk) c.in-Ok.is in
    let takes = subst (λ b. Takes g.A.Act.acts c.loop.actor c.loop.line bytes b c.take_bytes.new.line c.take_bytes.new.actor) c.if-not-take_bytes.true c.take_bytes.ensures in
    c.loop.invariant (r.0 ∷ []) c.next_piece.new.input Well c.take_bytes.new.actor (c.next_piece.new.input, r.1, refl) (hears_end g.A.Act.acts c.loop.actor c.take_bytes.new.actor c.loop.line c.take_bytes.new.line bytes r.0 is takes)

pub returns-in-Err : goal.returns-in-Err
returns-in-Err g c =
    let r = c.next_piece.ensures.given in
    let is = r.2 ∙ ap (piece_in c.next_piece.new.chunk) c.in-Err.is in
    let last = subst (λ l. TakesLast g.A.Act.acts c.loop.actor l c.take_last.new.actor) c.as_slice.ensures c.take_last.ensures in
    c.loop.invariant (r.0 ∷ []) c.next_piece.new.input c.in-Err.end c.take_last.new.actor (c.next_piece.new.input, r.1, refl) (hears_last g.A.Act.acts c.loop.actor c.take_last.new.actor c.loop.line r.0 c.in-Err.end is last)
