use Rattle.std.proofs.Common.{inr, subst}
use Rattle.slp_stream.specs.Framing.{Frames}
use Rattle.agent_clients.specs.Wires.{Acts, TakesAll}
use Rattle.agent_clients.proofs.Takings.{fed_is}
use Rattle.agent_clients.proofs.asker.Asker.take.Goals as goal

pub returns-in-Ok : goal.returns-in-Ok
returns-in-Ok c =
    let a = c.args.self.now in
    let taken = c.take_whole.ensures a.is_open in
    let after = Acts (record { agent = c.take_whole.new.agent; framer = c.take_whole.new.framer; is_open = a.is_open }) c.take_whole.result in
    inr (taken.0, subst (λ (f : Frames). TakesAll c.args.now (record a { framer = f }) taken.0 after) (fed_is a.framer c.feed.new.self c.args.piece.now c.in-Ok.field-0 c.in-Ok.ensures.faults c.in-Ok.ensures.fed) taken.1)
