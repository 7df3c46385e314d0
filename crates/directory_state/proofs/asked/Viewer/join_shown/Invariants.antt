use Rattle.std.proofs.Common.{◌≡◌, take}
use Rattle.std.specs.Prelude.{flat_map}
use Rattle.directory_state.specs.Searches.{entries_in, shown_elements}
use Rattle.directory_state.proofs.asked.Viewer.join_shown.Given as goal

-- those so far
abbrev pub invariant-loop-seen : goal.invariant-loop-seen
invariant-loop-seen l = l.gathering ≡ flat_map (shown_elements l.self l.tags) (entries_in (take l.seen-index l.entries))
