use Rattle.std.proofs.Common.{◌≡◌, drop}
use Rattle.slp_fields.specs.Reading.{rest_of_fields_at}
use Rattle.slp_fields.proofs.skipping.skip_fields.Given as goal

abbrev pub invariant-loop-kind : goal.invariant-loop-kind
invariant-loop-kind l = rest_of_fields_at (drop l.kind-index l.kinds) l.rest ≡ rest_of_fields_at l.kinds l.bytes
