use Rattle.std.proofs.Common.{◌≡◌, map, take}
use Rattle.directory_state.proofs.arranging.lent.Given as goal

-- those so far
abbrev pub invariant-loop-list : goal.invariant-loop-list
invariant-loop-list l = map (λ a. a.now) l.all.items ≡ take l.list-index l.lists
