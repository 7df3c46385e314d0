use Rattle.std.proofs.Common.{ℕ, ◌+◌, Option, arith, ap, sym, ◌∙◌, drop, map}
use Rattle.std.specs.Option.{option_and_then}
use Rattle.toml.specs.Data.{Data, as_str}
use Rattle.toml.specs.View.{view}
use Rattle.addresses.specs.Addresses.{socket_of}
use Rattle.toml_tables.specs.Tables.{each_in}
use Rattle.toml_tables.proofs.Arrays.{read_more, read_no_more, with_front}
use Rattle.site_config.specs.Configurations.{in_range}
use Rattle.site_config.proofs.sockets.sockets.Goals as goal

abbrev socket_in : Data → Option (ℕ × ℕ)
socket_in t = option_and_then socket_of (as_str t)

pub returns-in_default : goal.returns-in_default
returns-in_default c =
    let is = ap (λ v. socket_in (view v)) (sym c.value-item.is) ∙ sym c.in_default.ensures in
    ap in_range (sym c.loop-value.invariant ∙ read_no_more socket_in c.args.values.now c.loop-value.value-index c.value-item.result c.loop-value.sockets.items (omega arith) is)

pub loop-value-preserved : goal.loop-value-preserved
loop-value-preserved c =
    let is = ap (λ v. socket_in (view v)) (sym c.value-item.is) ∙ sym c.in-Some.ensures in
    ap (λ xs. with_front xs (each_in socket_in (map view (drop (c.loop-value.value-index + 1) c.args.values.now)))) c.in_ok-push.ensures.items
    ∙ sym (read_more socket_in c.args.values.now c.loop-value.value-index c.value-item.result c.loop-value.sockets.items c.in-Some.read (omega arith) is)
    ∙ c.loop-value.invariant
