use Rattle.std.proofs.Common.{◌≡◌, ◌+◌, ◌++◌, drop, map}
use Rattle.slp_text.specs.Reading.{read_map}
use Rattle.toml.specs.View.{view}
use Rattle.rule_files.specs.RuleFiles.{rules_from}
use Rattle.rule_files.proofs.files.rules.Given as goal

-- those so far stand before what is read of the rest
abbrev pub invariant-loop-i : goal.invariant-loop-i
invariant-loop-i l = read_map (λ rs. l.rules.items ++ rs) (rules_from l.version (l.i + 1) (map view (drop l.i l.values))) ≡ rules_from l.version 1 (map view l.values)
