use Rattle.std.proofs.Common.{get_or, subst}
use Rattle.agent_watch.specs.Words.{TakesByte}
use Rattle.agent_watch.proofs.Lines.{takes_more, takes_none, takes_end}
use Rattle.agent_watch.proofs.words.take_bytes.Goals as goal

pub loop-byte-init : goal.loop-byte-init
loop-byte-init g c = λ told rest after takes. takes

pub loop-byte-preserved : goal.loop-byte-preserved
loop-byte-preserved g c = λ told rest after more.
    let one = subst (λ b. TakesByte g.A.Act.acts c.loop-byte.actor c.loop-byte.line (get_or c.args.piece.now c.loop-byte.byte-index 0) b c.take_byte.new.line c.take_byte.new.actor) c.if-not-take_byte.false c.take_byte.ensures in
    c.loop-byte.invariant told rest after (takes_more g.A.Act.acts c.args.piece.now c.loop-byte.byte-index 0 c.loop-byte-test.true c.loop-byte.actor c.take_byte.new.actor c.loop-byte.line c.take_byte.new.line one told rest after more)

pub returns-then-not-take_byte : goal.returns-then-not-take_byte
returns-then-not-take_byte g c =
    let one = subst (λ b. TakesByte g.A.Act.acts c.loop-byte.actor c.loop-byte.line (get_or c.args.piece.now c.loop-byte.byte-index 0) b c.take_byte.new.line c.take_byte.new.actor) c.if-not-take_byte.true c.take_byte.ensures in
    c.loop-byte.invariant _ c.take_byte.new.line c.take_byte.new.actor
    (takes_none g.A.Act.acts c.args.piece.now c.loop-byte.byte-index 0 c.loop-byte-test.true c.loop-byte.actor c.take_byte.new.actor c.loop-byte.line c.take_byte.new.line c.take_byte.new.line one)

pub returns : goal.returns
returns g c = c.loop-byte.invariant _ c.loop-byte.line c.loop-byte.actor (takes_end g.A.Act.acts c.args.piece.now c.loop-byte.byte-index c.loop-byte.actor c.loop-byte.line c.loop-byte-test.false)
