use Rattle.std.proofs.Common.{◌≡◌, drop, map}
use Rattle.toml.specs.View.{view}
use Rattle.rule_files.specs.RuleFiles.{prefix_in}
use Rattle.toml_tables.specs.Tables.{each_in}
use Rattle.toml_tables.proofs.Arrays.{with_front}
use Rattle.rule_files.proofs.fields.prefixes.Given as goal

-- those so far stand before what is read of the rest
abbrev pub invariant-loop-value : goal.invariant-loop-value
invariant-loop-value l = with_front l.prefixes.items (each_in prefix_in (map view (drop l.value-index l.values))) ≡ each_in prefix_in (map view l.values)
