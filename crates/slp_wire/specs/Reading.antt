-- Reading a message from the left, to the first fault (RFC 2608, sections 7 to 10).
use Rattle.std.specs.Prelude.{ℕ, List, length, ◌+◌, Bool, ◌==◌, ◌&&◌, nat_le, if◌then◌else◌, ◌-◌, ◌||◌, nat_lt, take, drop, Some, None, Result, Ok, Err}
use Rattle.byteorder.specs.Endian.{big_number}
use Rattle.slp_messages.specs.declared.function.TheConstants.{SERVICE_REQUEST, SERVICE_ADVERT}
use Rattle.slp_messages.specs.declared.header.Header.{Header}
use Rattle.slp_messages.specs.declared.message.Message.{Message}
use Rattle.slp_headers.specs.Headers.{Heading, flags_of, heading_of}
use Rattle.slp_headers.specs.declared.beginning.TheConstants.{VERSION}
use Rattle.slp_headers.specs.declared.offset.TheConstants as offset
use Rattle.slp_fields.specs.Steps.{◌>>=◌}
use Rattle.slp_fields.specs.declared.fault.WireFault.TheVariants.{NoHeader, Version, Parse, Unknown}
use Rattle.slp_fields.specs.declared.fault.WireFault.{WireFault}
use Rattle.slp_wire.specs.Bodies.{body_at}
use Rattle.slp_wire.specs.Extensions.{extensions_at}

-- the functions that there are
abbrev pub is_known : ℕ → Bool
is_known f = nat_le SERVICE_REQUEST f && nat_le f SERVICE_ADVERT

-- the header that a message keeps
abbrev pub kept_header : Heading → Header
kept_header h = record { flags = flags_of h.flags; xid = h.xid; language = h.language }

-- what stands after the header, as far as the length field marks it
abbrev pub body_part : Heading → List ℕ → List ℕ
body_part h bytes = drop (offset.TAG + length h.language) (take h.length bytes)

-- how many bytes of the message the header gives to extensions
abbrev pub tail_of : Heading → ℕ
tail_of h = if h.extension == 0 then 0 else h.length - h.extension

-- After a body nothing is left, or extensions, which begin where the header says: the message has so many bytes in all.
unfoldable pub ends_at : ℕ → ℕ → List ℕ → Result (Unit {0}) WireFault
ends_at extension total rest =
    if extension == 0 then (if length rest == 0 then Ok tt else Err Parse)
    else (if extension + length rest == total then extensions_at (length rest) extension rest else Err Parse)

-- a message whose body is read, where it ends at its length or its extensions
unfoldable pub reading_to_end : Heading → Result (Message × List ℕ) WireFault → Result Message WireFault
reading_to_end h read = do
  m ← read
  _ ← ends_at h.extension h.length m.1
  Ok m.0

-- the message after its heading: the function is known, the version is 2, and the length is that of the heading at least and
-- no more than there is
unfoldable pub reading_after : Heading → List ℕ → Result Message WireFault
reading_after h bytes =
    if is_known h.function then
    (if h.version == VERSION then
    (if nat_lt h.length (offset.TAG + length h.language) || nat_lt (length bytes) h.length then Err Parse
    else reading_to_end h (body_at h.function (tail_of h) (kept_header h) (body_part h bytes)))
    else Err Version)
    else Err Unknown

-- The message in front of the bytes, as far as its length field marks it, or the first fault: no readable header, a function
-- that there is not, another version, a length that does not fit, then the body from the left, and then the extensions.
unfoldable pub reading : List ℕ → Result Message WireFault
reading bytes = elim (heading_of bytes) [ None ↦ Err NoHeader | Some h ↦ reading_after h bytes ]

-- the front of the bytes that the length field marks
abbrev pub marked_bytes : List ℕ → List ℕ
marked_bytes bytes = take (big_number 3 (drop offset.LENGTH bytes)) bytes
