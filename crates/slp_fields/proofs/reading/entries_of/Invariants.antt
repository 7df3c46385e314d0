use Rattle.std.proofs.Common.{◌≡◌, ◌-◌}
use Rattle.slp_fields.specs.Reading.{entries_at}
use Rattle.slp_fields.proofs.EntryLoops.{with_front}
use Rattle.slp_fields.proofs.reading.entries_of.Given as goal

abbrev pub invariant-loop : goal.invariant-loop
invariant-loop l = with_front l.entries.items (entries_at (l.count - l.counter) l.rest) ≡ entries_at l.count l.bytes
