use Rattle.std.proofs.Common.{◌≤◌, ap, subst, arith, length, List}
use mathlib.Core.List.{IsPrefix}
use Rattle.directory_judge.specs.History.{Event}
use Rattle.history_log.proofs.Fronts.{past_of_prefix, prefix_shorter}
use Rattle.history_log.proofs.front.Front.begins.Goals as goal

pub returns-then-self-other-clause-past : goal.returns-then-self-other-clause-past
returns-then-self-other-clause-past g c t =
    let mine = c.self.inside.trail in
    let theirs = c.other.inside.trail in
    let both = c.learn.new.self.log in
    let this : IsPrefix mine.seen.log both = subst (λ (l : List Event). IsPrefix l both) (ap (λ s. s.log) c.again-both.ensures) c.learn.ensures.2 in
    let less : length mine.seen.log ≤ length theirs.seen.log = omega (arith, mine.counted, theirs.counted) in
    rw (← c.self.view_is, ← c.other.view_is) (past_of_prefix mine.seen.log theirs.seen.log (prefix_shorter mine.seen.log theirs.seen.log both this c.learn.ensures.3 less))
