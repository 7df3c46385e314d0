use Rattle.std.proofs.Common.{rules, sym}
use Rattle.slp_text.specs.Words.{IsAscending}
use Rattle.slp_text.proofs.KeySets.{set_itself, sorted_once}
use Rattle.slp_scopes.proofs.scopes.settled.Goals as goal

pub returns-clause-value : goal.returns-clause-value
returns-clause-value c = sorted_once _ _ _ c.sort.ensures.permutation c.in_ok-sort.ensures.sorted c.dedup.ensures.filtered

pub returns-then-are_ascending-clause-value : goal.returns-then-are_ascending-clause-value
returns-then-are_ascending-clause-value c =
    let ascending : IsAscending c.args.keys.items = search rules in
    sym (set_itself c.args.keys.items ascending)
