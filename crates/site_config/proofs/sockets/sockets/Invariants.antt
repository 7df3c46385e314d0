use Rattle.std.proofs.Common.{◌≡◌, drop, map}
use Rattle.std.specs.Option.{option_and_then}
use Rattle.toml.specs.Data.{as_str}
use Rattle.toml.specs.View.{view}
use Rattle.addresses.specs.Addresses.{socket_of}
use Rattle.toml_tables.specs.Tables.{each_in}
use Rattle.toml_tables.proofs.Arrays.{with_front}
use Rattle.site_config.proofs.sockets.sockets.Given as goal

-- those so far stand before what is read of the rest
abbrev pub invariant-loop-value : goal.invariant-loop-value
invariant-loop-value l =
    with_front l.sockets.items (each_in (λ t. option_and_then socket_of (as_str t)) (map view (drop l.value-index l.values))) ≡ each_in (λ t. option_and_then socket_of (as_str t)) (map view l.values)
