use Rattle.std.proofs.Common.{◌≡◌, ◌+◌, ◌≤◌, length, take, min}
use Rattle.std.specs.List.{flat_map, AllByRecursion}
use Rattle.slp_messages.specs.Fields.{IsEntry}
use Rattle.slp_fields.specs.Spelling.{entry_bytes}
use Rattle.slp_fields.proofs.lengths.with_entries.Given as goal

abbrev pub invariant-loop-entry : goal.invariant-loop-entry
invariant-loop-entry l = record {
  length : l.total ≡ min (l.fn.total + (2 + length (flat_map (entry_bytes 0) (take l.entry-index l.entries)))) 65536;
  sound : l.total ≤ 65535 → AllByRecursion IsEntry (take l.entry-index l.entries);
}
