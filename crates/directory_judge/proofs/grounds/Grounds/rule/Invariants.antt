use Rattle.std.proofs.Common.{Some}
use Rattle.access_rules.specs.Deciding.{deed}
use Rattle.directory_judge.proofs.Rulings.{IsAsked}
use Rattle.directory_judge.proofs.grounds.Grounds.rule.Given as goal

abbrev pub invariant-loop-place : goal.invariant-loop-place
invariant-loop-place g l = IsAsked l.self.rules (deed l.self.asker l.action l.kind l.registrant) l.scopes (Some l.first) l.place
