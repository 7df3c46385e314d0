use Rattle.std.proofs.Common.{◌<◌, sym, subst, chars}
use Rattle.std.specs.List.{AllByRecursion}
use Rattle.attr_values.proofs.OpaqueBytes.{are_bytes}
use Rattle.attr_values.proofs.reading.opaque_value.Goals as goal

pub returns-in-Ok-clause-kind : goal.returns-in-Ok-clause-kind
returns-in-Ok-clause-kind c = subst (AllByRecursion (λ b. b < 256)) (sym c.wrap.ensures) (are_bytes (chars c.args.rest.now) c.in-Ok.bytes.items c.in-Ok.ensures)
