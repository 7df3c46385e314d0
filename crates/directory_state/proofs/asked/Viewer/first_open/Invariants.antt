use Rattle.std.proofs.Common.{◌≡◌, drop, filter}
use Rattle.directory_questions.specs.Sights.{is_open_in}
use Rattle.directory_state.proofs.asked.Viewer.first_open.Given as goal

-- in none so far
abbrev pub invariant-loop-place : goal.invariant-loop-place
invariant-loop-place l =
    let open_of = filter (is_open_in l.self.rules.now l.self.asker l.entry) in
    open_of (drop l.place l.self.asked) ≡ open_of (drop 0 l.self.asked)
