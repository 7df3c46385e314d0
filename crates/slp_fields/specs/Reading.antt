-- Fields as they are read from the left, to the first fault: a value, and the bytes after it (RFC 2608, sections 4.3, 8 and 9).
use Rattle.std.specs.Prelude.{ℕ, List, length, ◌==◌, [], ◌∷◌, if◌then◌else◌, zero, suc, nat_lt, take, drop, slice_index, Result, Ok, Err}
use Rattle.std.specs.Str.{is_utf8}
use Rattle.byteorder.specs.Endian.{big_number}
use Rattle.slp_messages.specs.Fields.{Value, Values}
use Rattle.slp_messages.specs.Layouts.{Layout}
use Rattle.slp_messages.specs.declared.kind.Kind.TheVariants.{Number, Long, Text, Entry, Entries, Authority, NoBlock, NoIndex}
use Rattle.slp_messages.specs.declared.kind.Kind.{Kind}
use Rattle.slp_messages.specs.declared.message.Authority.TheVariants.{All, Named}
use Rattle.slp_messages.specs.declared.message.Authority as code
use Rattle.slp_messages.specs.declared.message.UrlEntry.{UrlEntry}
use Rattle.slp_fields.specs.Steps.{◌>>=◌}
use Rattle.slp_fields.specs.declared.fault.WireFault.TheVariants.{Parse, Auth}
use Rattle.slp_fields.specs.declared.fault.WireFault.{WireFault}

-- ---- single fields

-- a byte, and what comes after it
unfoldable pub byte_at : List ℕ → Result (ℕ × List ℕ) WireFault
byte_at bytes = if length bytes == 0 then Err Parse else Ok (slice_index bytes 0, drop 1 bytes)

-- a number of two bytes, the first the highest
unfoldable pub number_at : List ℕ → Result (ℕ × List ℕ) WireFault
number_at bytes = if nat_lt (length bytes) 2 then Err Parse else Ok (big_number 2 bytes, drop 2 bytes)

-- a number of four bytes, the first the highest
unfoldable pub long_at : List ℕ → Result (ℕ × List ℕ) WireFault
long_at bytes = if nat_lt (length bytes) 4 then Err Parse else Ok (big_number 4 bytes, drop 4 bytes)

-- a string in UTF-8 after its length of two bytes
unfoldable pub string_at : List ℕ → Result (List ℕ × List ℕ) WireFault
string_at bytes = do
  n ← number_at bytes
  if nat_lt (length n.1) n.0 then Err Parse
      else (if is_utf8 (take n.0 n.1) then Ok (take n.0 n.1, drop n.0 n.1) else Err Parse)

-- a count of authentication blocks, of which there are none
unfoldable pub no_block_at : List ℕ → Result (Unit {0} × List ℕ) WireFault
no_block_at bytes = do
  n ← byte_at bytes
  if n.0 == 0 then Ok (tt, n.1) else Err Auth

-- the name of a security parameter index, which is empty
unfoldable pub no_index_at : List ℕ → Result (Unit {0} × List ℕ) WireFault
no_index_at bytes = do
  s ← string_at bytes
  if length s.0 == 0 then Ok (tt, s.1) else Err Auth

-- a URL entry: a reserved byte, lifetime, URL, no authentication block (RFC 2608, section 4.3)
unfoldable pub entry_at : List ℕ → Result (UrlEntry × List ℕ) WireFault
entry_at bytes = do
  reserved ← byte_at bytes
  lifetime ← number_at reserved.1
  url ← string_at lifetime.1
  none ← no_block_at url.1
  Ok (record { lifetime = lifetime.0; url = url.0 }, none.1)

-- so many URL entries
unfoldable pub entries_at : ℕ → List ℕ → Result (List UrlEntry × List ℕ) WireFault
entries_at zero bytes = Ok ([], bytes)
entries_at (suc n) bytes = do
  first ← entry_at bytes
  others ← entries_at n first.1
  Ok (first.0 ∷ others.0, others.1)

-- URL entries after their number
unfoldable pub listing_at : List ℕ → Result (List UrlEntry × List ℕ) WireFault
listing_at bytes = do
  n ← number_at bytes
  entries_at n.0 n.1

-- the greatest length stands for all authorities, and no text follows it
unfoldable pub authority_at : List ℕ → Result (code.Authority × List ℕ) WireFault
authority_at bytes = do
  n ← number_at bytes
  if n.0 == 65535 then Ok (All, n.1) else (string_at bytes >>= λ text. Ok (Named text.0, text.1))

-- ---- by their kinds

-- a value of a kind
abbrev pub value_at : (k : Kind) → List ℕ → Result (Value k × List ℕ) WireFault
value_at Number bytes = number_at bytes
value_at Long bytes = long_at bytes
value_at Text bytes = string_at bytes
value_at Entry bytes = entry_at bytes
value_at Entries bytes = listing_at bytes
value_at Authority bytes = authority_at bytes
value_at NoBlock bytes = no_block_at bytes
value_at NoIndex bytes = no_index_at bytes

-- fields of these kinds, one after the other, and what is made of what they hold and of the bytes after them
abbrev pub reading_at : {A : Type 0} → (ks : List Kind) → List ℕ → (Values ks → List ℕ → Result A WireFault)
    → Result A WireFault
reading_at [] bytes made = made tt bytes
reading_at (k ∷ ks) bytes made =
    value_at k bytes >>= λ first. reading_at ks first.1 (λ others rest. made (first.0, others) rest)

-- what a layout lays out
abbrev pub layout_at : {A : Type 0} → Layout A → List ℕ → Result (A × List ℕ) WireFault
layout_at layout bytes = reading_at layout.kinds bytes (λ values rest. Ok (layout.made values, rest))

-- ---- for their faults alone

-- a field that is not kept
abbrev pub rest_of_reading : {A : Type 0} → Result (A × List ℕ) WireFault → Result (List ℕ) WireFault
rest_of_reading read = read >>= λ x. Ok x.1

-- a field of a kind that is not kept
abbrev pub rest_of_field_at : Kind → List ℕ → Result (List ℕ) WireFault
rest_of_field_at Number bytes = rest_of_reading (number_at bytes)
rest_of_field_at Long bytes = rest_of_reading (long_at bytes)
rest_of_field_at Text bytes = rest_of_reading (string_at bytes)
rest_of_field_at Entry bytes = rest_of_reading (entry_at bytes)
rest_of_field_at Entries bytes = rest_of_reading (listing_at bytes)
rest_of_field_at Authority bytes = rest_of_reading (authority_at bytes)
rest_of_field_at NoBlock bytes = rest_of_reading (no_block_at bytes)
rest_of_field_at NoIndex bytes = rest_of_reading (no_index_at bytes)

-- fields of these kinds, one after the other, that are not kept
abbrev pub rest_of_fields_at : List Kind → List ℕ → Result (List ℕ) WireFault
rest_of_fields_at [] bytes = Ok bytes
rest_of_fields_at (k ∷ ks) bytes = rest_of_field_at k bytes >>= λ rest. rest_of_fields_at ks rest
