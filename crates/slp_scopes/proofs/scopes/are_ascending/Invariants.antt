use Rattle.std.proofs.Common.{◌∷◌, length}
use Rattle.slp_text.specs.Words.{IsAscending}
use Rattle.slp_scopes.proofs.scopes.are_ascending.Given as goal

-- where what is left ascends, all does
abbrev pub invariant-loop-next : goal.invariant-loop-next
invariant-loop-next l = IsAscending (l.last ∷ l.rest) → IsAscending l.keys

abbrev pub decreases-loop-next : goal.decreases-loop-next
decreases-loop-next l = length l.rest
