use Rattle.std.proofs.Common.{◌≡◌, map, take}
use Rattle.directory_state.specs.Searches.{entries_in, seen_of}
use Rattle.directory_state.proofs.asked.Viewer.copies_of_shown.Given as goal

-- those so far
abbrev pub invariant-loop-seen : goal.invariant-loop-seen
invariant-loop-seen l = l.copies.items ≡ map (λ e. (seen_of l.self e).attrs) (entries_in (take l.seen-index l.entries))
