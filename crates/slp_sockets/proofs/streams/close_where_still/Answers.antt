use Rattle.std.proofs.Common.{arith, sym, ◌∙◌}
use Rattle.slp_sockets.proofs.Sitting.{removal_keeps, removal_only}
use Rattle.slp_sockets.proofs.streams.close_where_still.Goals as goal

pub returns-clause-kept : goal.returns-clause-kept
returns-clause-kept c =
    removal_keeps c.args.peers.now c.try_remove.new.self c.args.key c.args.stay c.args.now c.in-Some.at c.try_remove.ensures.updates (sym c.moved_at.ensures ∙ c.in-Some.is)
    (omega (arith, c.requires, c.if-saturating_sub-stay.false, c.saturating_sub.ensures))

pub returns-clause-only : goal.returns-clause-only
returns-clause-only c = removal_only c.args.peers.now c.try_remove.new.self c.args.key c.try_remove.ensures.updates
