use Rattle.std.proofs.Common.{◌≡◌, ◌+◌, ◌≤◌, ◌++◌, length, take, vec_len, vec_capacity}
use Rattle.slp_fields.specs.Writing.{fields_bytes}
use Rattle.slp_fields.proofs.writing.put_fields.Given as goal

abbrev pub invariant-loop-field : goal.invariant-loop-field
invariant-loop-field l = record {
  items : l.bytes.items ≡ l.fn.bytes.items ++ fields_bytes (take l.field-index l.fields);
  count : vec_len l.bytes ≡ vec_len l.fn.bytes + length (fields_bytes (take l.field-index l.fields));
  room : vec_len l.fn.bytes + length (fields_bytes l.fields) ≤ vec_capacity l.bytes;
  capacity : vec_capacity l.fn.bytes ≤ vec_capacity l.bytes;
}
