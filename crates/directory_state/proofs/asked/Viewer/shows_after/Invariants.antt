use Rattle.std.proofs.Common.{◌≡◌, ◌+◌}
use Rattle.std.specs.List.{list_any}
use Rattle.directory_questions.specs.Sights.{is_left_in}
use Rattle.directory_state.specs.Searches.{open_scopes}
use Rattle.directory_state.proofs.asked.Viewer.shows_after.Given as goal

-- it is hidden in those so far
abbrev pub invariant-loop-later : goal.invariant-loop-later
invariant-loop-later l =
    let some_left = list_any (is_left_in l.self.rules.now l.self.asker l.entry l.tag) in
    some_left (open_scopes l.self l.entry l.later) ≡ some_left (open_scopes l.self l.entry (l.place + 1))
