use Rattle.std.proofs.Common.{◌≡◌, ◌<◌, ◌+◌, ℕ, false, drop, get_or, length}
use Rattle.access_rules.specs.Deciding.{deed_in, fits}
use Rattle.access_rules.specs.declared.rule.Rule.{Rule}
use Rattle.access_rules.proofs.rules.first_fitting.Given as goal

-- no rule that was passed fits
abbrev pub invariant-loop-rule : goal.invariant-loop-rule
invariant-loop-rule l = record {
  left : drop l.place l.rules ≡ l.rest;
  count : l.place + length l.rest ≡ length l.rules;
  passed : (k : ℕ) (d : Rule) → k < l.place → fits (deed_in l.deed) l.scope (get_or l.rules k d) ≡ false;
}

abbrev pub decreases-loop-rule : goal.decreases-loop-rule
decreases-loop-rule l = length l.rest
