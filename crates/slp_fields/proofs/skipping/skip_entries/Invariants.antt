use Rattle.std.proofs.Common.{◌≡◌, ◌-◌}
use Rattle.slp_fields.specs.Reading.{entries_at, rest_of_reading}
use Rattle.slp_fields.proofs.skipping.skip_entries.Given as goal

abbrev pub invariant-loop : goal.invariant-loop
invariant-loop l = rest_of_reading (entries_at (l.count - l.counter) l.rest) ≡ rest_of_reading (entries_at l.count l.bytes)
