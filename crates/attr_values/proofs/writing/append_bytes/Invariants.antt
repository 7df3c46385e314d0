use Rattle.std.proofs.Common.{◌≡◌, ◌++◌, drop}
use Rattle.std.specs.Prelude.{flat_map, string_bytes}
use Rattle.slp_text.specs.Steps.{BeginsWith}
use Rattle.attr_values.specs.Values.{escaped_byte}
use Rattle.attr_values.proofs.writing.append_bytes.Given as goal

-- what is there and what is still to come are the bytes
abbrev pub invariant-loop-byte : goal.invariant-loop-byte
invariant-loop-byte l = record {
  start : BeginsWith (string_bytes l.initial.out) (string_bytes l.out);
  text : string_bytes l.out ++ flat_map escaped_byte (drop l.byte-index l.bytes) ≡ string_bytes l.initial.out ++ flat_map escaped_byte l.bytes;
}
