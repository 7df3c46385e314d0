use Rattle.std.proofs.Common.{◌≡◌, drop, map}
use Rattle.toml.specs.Data.{as_str}
use Rattle.toml.specs.View.{view}
use Rattle.toml_tables.specs.Tables.{each_in}
use Rattle.toml_tables.proofs.Arrays.{with_front}
use Rattle.site_config.proofs.values.paths.Given as goal

-- those so far stand before what is read of the rest
abbrev pub invariant-loop-value : goal.invariant-loop-value
invariant-loop-value l = with_front l.paths.items (each_in as_str (map view (drop l.value-index l.values))) ≡ each_in as_str (map view l.values)
