use Rattle.std.proofs.Common.{◌≡◌, ◌+◌, ◌≤◌, length, take, min}
use Rattle.std.specs.List.{AllByRecursion}
use Rattle.slp_fields.specs.Writing.{fields_bytes, IsField}
use Rattle.slp_fields.proofs.lengths.with_fields.Given as goal

abbrev pub invariant-loop-field : goal.invariant-loop-field
invariant-loop-field l = record {
  length : l.total ≡ min (l.fn.total + length (fields_bytes (take l.field-index l.fields))) 65536;
  sound : l.total ≤ 65535 → AllByRecursion IsField (take l.field-index l.fields);
}
