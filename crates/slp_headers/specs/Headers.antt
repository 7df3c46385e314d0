-- Headers, flags and strings (RFC 2608, section 8).
use Rattle.std.specs.Prelude.{ℕ, Bool, not, ◌+◌, ◌==◌, ◌&&◌, ◌||◌, nat_le, bit_and, List, ◌∷◌, ◌++◌, length, take, drop, slice_index, Option, Some, None, if◌then◌else◌}
use Rattle.std.specs.List.{list_all}
use Rattle.byteorder.specs.Endian.{big_bytes, big_number}
use Rattle.slp_messages.specs.Tags.{is_tag_byte}
use Rattle.slp_messages.specs.declared.function.TheConstants.{SERVICE_REQUEST, SERVICE_REPLY, REGISTRATION, WITHDRAWAL, ACKNOWLEDGEMENT, ATTRIBUTE_REQUEST, ATTRIBUTE_REPLY, TYPE_REQUEST, TYPE_REPLY}
use Rattle.slp_messages.specs.declared.header.Flags.{Flags}
use Rattle.slp_headers.specs.declared.flag.TheConstants.{OVERFLOW, FRESH, MULTICAST}
use Rattle.slp_headers.specs.declared.offset.TheConstants as offset
use Rattle.slp_headers.specs.declared.view.HeaderView.{HeaderView}

-- ---- flags

-- a flag is set
abbrev pub has_flag : ℕ → ℕ → Bool
has_flag mask word = not (bit_and word mask == 0)

-- the flags in a word, whatever its other bits are
abbrev pub flags_of : ℕ → Flags
flags_of word =
    record { overflow = has_flag OVERFLOW word; fresh = has_flag FRESH word; multicast = has_flag MULTICAST word }

-- the word of flags that is written: the other bits are 0
abbrev pub word_of : Flags → ℕ
word_of f = (if f.overflow then OVERFLOW else 0) + (if f.fresh then FRESH else 0) + (if f.multicast then MULTICAST else 0)

-- ---- strings and headers

-- two bytes of length, and that many bytes
abbrev pub string : List ℕ → List ℕ
string text = big_bytes 2 (length text) ++ text

-- what a header says of the whole message, but for its body
pub record Heading : Type 0 where
  pub version : ℕ
  pub function : ℕ
  pub length : ℕ
  pub flags : ℕ
  pub extension : ℕ
  pub xid : ℕ
  pub language : List ℕ

-- the bytes of a header
abbrev pub heading_bytes : Heading → List ℕ
heading_bytes h = h.version ∷ h.function ∷ big_bytes 3 h.length ++ big_bytes 2 h.flags ++ big_bytes 3 h.extension
    ++ big_bytes 2 h.xid ++ string h.language

-- a message with this body: version 2, no extension, and the length exact
abbrev pub frame_bytes : ℕ → ℕ → ℕ → List ℕ → List ℕ → List ℕ
frame_bytes function flags xid language body =
    heading_bytes (record {
      version = 2;
      function = function;
      length = 14 + length language + length body;
      flags = flags;
      extension = 0;
      xid = xid;
      language = language;
    }) ++ body

-- the tag that the length at place 12 marks, as far as it is there
abbrev pub tag_of : List ℕ → List ℕ
tag_of bytes = take (big_number 2 (drop offset.TAG_LENGTH bytes)) (drop offset.TAG bytes)

-- a header is readable: 14 bytes are there, and a tag of at most 64 printable characters
abbrev pub is_readable : List ℕ → Bool
is_readable bytes =
    nat_le offset.TAG (length bytes) && nat_le (big_number 2 (drop offset.TAG_LENGTH bytes)) 64
    && nat_le (offset.TAG + big_number 2 (drop offset.TAG_LENGTH bytes)) (length bytes)
    && list_all is_tag_byte (tag_of bytes)

-- the fields that stand in front of bytes
abbrev pub fields_of : List ℕ → Heading
fields_of bytes = record {
  version = slice_index bytes offset.VERSION;
  function = slice_index bytes offset.FUNCTION;
  length = big_number 3 (drop offset.LENGTH bytes);
  flags = big_number 2 (drop offset.FLAGS bytes);
  extension = big_number 3 (drop offset.EXTENSION bytes);
  xid = big_number 2 (drop offset.XID bytes);
  language = tag_of bytes;
}

-- the header of a message, where it is readable
abbrev pub heading_of : List ℕ → Option Heading
heading_of bytes = if is_readable bytes then Some (fields_of bytes) else None

-- a view of a header, without where its tag lies in memory
abbrev pub heading_in : HeaderView → Heading
heading_in v = record { version = v.version; function = v.function; length = v.length; flags = v.flags; extension = v.ext; xid = v.xid; language = v.language.now }

-- the function of the reply to a request, where there is one
abbrev pub reply_function_of : ℕ → Option ℕ
reply_function_of f =
    if f == SERVICE_REQUEST then Some SERVICE_REPLY
    else if f == REGISTRATION || f == WITHDRAWAL then Some ACKNOWLEDGEMENT
    else if f == ATTRIBUTE_REQUEST then Some ATTRIBUTE_REPLY
    else if f == TYPE_REQUEST then Some TYPE_REPLY
    else None

-- a reply that ends with its nonzero code: 16 bytes and the request's tag
abbrev pub refusal_bytes : ℕ → ℕ → ℕ → List ℕ → List ℕ
refusal_bytes function code xid language = frame_bytes function 0 xid language (big_bytes 2 code)
