use Rattle.std.proofs.Common.{◌≡◌, ◌+◌, ◌++◌, drop, map}
use Rattle.slp_text.specs.Reading.{read_map}
use Rattle.toml.specs.View.{view}
use Rattle.rule_files.specs.RuleFiles.{hides_from}
use Rattle.rule_files.proofs.files.hides.Given as goal

-- those so far stand before what is read of the rest
abbrev pub invariant-loop-i : goal.invariant-loop-i
invariant-loop-i l = read_map (λ hs. l.hides.items ++ hs) (hides_from (l.rules + l.i + 1) (map view (drop l.i l.values))) ≡ hides_from (l.rules + 1) (map view l.values)
