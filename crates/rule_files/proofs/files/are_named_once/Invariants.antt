use Rattle.std.proofs.Common.{◌≡◌, drop}
use Rattle.rule_files.specs.RuleFiles.{are_named_once}
use Rattle.rule_files.proofs.files.are_named_once.Given as goal

-- those to come decide
abbrev pub invariant-loop-i : goal.invariant-loop-i
invariant-loop-i l = are_named_once l.hides (drop l.i l.rules) ≡ are_named_once l.hides l.rules
