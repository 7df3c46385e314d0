use Rattle.std.proofs.Common.{◌≡◌, ◌+◌, ◌≤◌, ◌++◌, length, take, vec_len, vec_capacity}
use Rattle.std.specs.List.{flat_map}
use Rattle.byteorder.specs.Endian.{big_bytes}
use Rattle.slp_fields.specs.Spelling.{entry_bytes, listing}
use Rattle.slp_fields.proofs.writing.put_entries.Given as goal

abbrev pub invariant-loop-entry : goal.invariant-loop-entry
invariant-loop-entry l = record {
  items : l.bytes.items ≡ l.fn.bytes.items ++ (big_bytes 2 (length l.entries) ++ flat_map (entry_bytes 0) (take l.entry-index l.entries));
  count : vec_len l.bytes ≡ vec_len l.fn.bytes + 2 + length (flat_map (entry_bytes 0) (take l.entry-index l.entries));
  room : vec_len l.fn.bytes + length (listing l.entries) ≤ vec_capacity l.bytes;
  capacity : vec_capacity l.fn.bytes ≤ vec_capacity l.bytes;
}
