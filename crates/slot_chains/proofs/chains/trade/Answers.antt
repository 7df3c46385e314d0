use Rattle.std.proofs.Common.{sym, subst, length}
use Rattle.std.specs.List.{swap}
use Rattle.slot_chains.specs.Links.{IsInverse}
use Rattle.slot_chains.proofs.Walks.{IsInverse-trade}
use Rattle.slot_chains.proofs.chains.trade.Goals as goal

pub returns-clause-inverse : goal.returns-clause-inverse
returns-clause-inverse c =
    let n = length c.args.next.now in
    let traded = IsInverse-trade c.args.next.now c.args.prev.now n c.args.a c.args.x c.requires.inverse c.requires.a_in c.requires.x_in in
    subst (λ xs. IsInverse xs c.swap-2.new.self n) (sym c.swap.ensures.after) (subst (λ ys. IsInverse (swap c.args.next.now c.args.a c.args.x) ys n) (sym c.swap-2.ensures.after) traded)
