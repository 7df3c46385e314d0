use Rattle.std.proofs.Common.{◌≡◌, map, take}
use Rattle.directory_state.specs.Searches.{entries_lent}
use Rattle.directory_state.proofs.copies.copied_types.Given as goal

-- those so far
abbrev pub invariant-loop-entry : goal.invariant-loop-entry
invariant-loop-entry l = l.types.items ≡ map (λ e. e.kind) (entries_lent (take l.entry-index l.entries))
