use Rattle.std.proofs.Common.{◌≡◌, drop, map, string_bytes}
use Rattle.std.specs.Option.{option_map}
use Rattle.toml.specs.View.{view}
use Rattle.rule_files.specs.RuleFiles.{comma_ended, scope_name_in}
use Rattle.toml_tables.specs.Tables.{each_in}
use Rattle.toml_tables.proofs.Arrays.{with_front}
use Rattle.rule_files.proofs.fields.scope_names.Given as goal

-- those so far stand before what is read of the rest
abbrev pub invariant-loop-value : goal.invariant-loop-value
invariant-loop-value l =
    with_front (string_bytes l.names) (option_map comma_ended (each_in scope_name_in (map view (drop l.value-index l.values)))) ≡ option_map comma_ended (each_in scope_name_in (map view l.values))
