-- Fields that are written.
use Rattle.std.specs.Prelude.{ℕ, List}
use Rattle.std.specs.List.{flat_map}
use Rattle.slp_messages.specs.Fields.{IsFit}
use Rattle.slp_messages.specs.declared.kind.Kind.TheVariants as kind
use Rattle.slp_fields.specs.Spelling.{value_bytes}
use Rattle.slp_fields.specs.declared.field.Field.TheVariants.{Number, Long, Text, Entry, Entries, Authority, NoBlock, NoIndex}
use Rattle.slp_fields.specs.declared.field.Field.{Field}

-- the bytes of a field
abbrev pub field_bytes : Field → List ℕ
field_bytes (Number n) = value_bytes kind.Number n
field_bytes (Long n) = value_bytes kind.Long n
field_bytes (Text text) = value_bytes kind.Text text.now
field_bytes (Entry e) = value_bytes kind.Entry e.now
field_bytes (Entries es) = value_bytes kind.Entries es.now
field_bytes (Authority a) = value_bytes kind.Authority a.now
field_bytes NoBlock = value_bytes kind.NoBlock tt
field_bytes NoIndex = value_bytes kind.NoIndex tt

-- a field holds what its place can
abbrev pub IsField : Field → Type 0
IsField (Number n) = IsFit kind.Number n
IsField (Long n) = IsFit kind.Long n
IsField (Text text) = IsFit kind.Text text.now
IsField (Entry e) = IsFit kind.Entry e.now
IsField (Entries es) = IsFit kind.Entries es.now
IsField (Authority a) = IsFit kind.Authority a.now
IsField NoBlock = IsFit kind.NoBlock tt
IsField NoIndex = IsFit kind.NoIndex tt

-- the bytes of fields, one after the other
abbrev pub fields_bytes : List Field → List ℕ
fields_bytes fs = flat_map field_bytes fs

-- A message that is sent has at most 65,535 bytes. One with a longer string has more.
abbrev pub longest : ℕ
longest = 65535
