use Rattle.std.proofs.Common.{length}
use Rattle.access_rules.specs.Deciding.{IsPart}
use Rattle.access_rules.proofs.about.part_about.Given as goal

abbrev pub invariant-loop-first : goal.invariant-loop-first
invariant-loop-first g l = IsPart (λ x. g.T.Concerns.is_about x l.asker) l.part l.all

abbrev pub decreases-loop-first : goal.decreases-loop-first
decreases-loop-first g l = length l.part

abbrev pub invariant-loop-last : goal.invariant-loop-last
invariant-loop-last g l = IsPart (λ x. g.T.Concerns.is_about x l.asker) l.part l.all

abbrev pub decreases-loop-last : goal.decreases-loop-last
decreases-loop-last g l = length l.part
