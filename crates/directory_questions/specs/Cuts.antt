-- How a reply is cut to what fits (RFC 2608, section 8.2).
use Rattle.std.specs.Prelude.{◌≡◌, ℕ, ◌≤◌, Bool, false, nat_lt, List, length, take}
use Rattle.slp_headers.specs.Headers.{Heading}
use Rattle.slp_text.specs.Lists.{comma_list}
use Rattle.slp_wire.specs.Spelling.{plain_bytes}
use Rattle.slp_messages.specs.declared.header.Header.{Header}
use Rattle.slp_messages.specs.declared.message.Message.{Message}
use Rattle.slp_messages.specs.declared.message.Message.TheVariants as message
use Rattle.slp_messages.specs.declared.message.AttributeReply.TheVariants as attribute_reply
use Rattle.slp_messages.specs.declared.message.ServiceReply.TheVariants.{Found}
use Rattle.slp_messages.specs.declared.message.TypeReply.TheVariants as type_reply
use Rattle.slp_messages.specs.declared.message.UrlEntry.{UrlEntry}

-- of so many items the longest prefix is sent whose message fits the limit
pub record IsCut (number : ℕ) (message_with : ℕ → Message) (limit : ℕ) (bytes : List ℕ) : Type 0 where
  pub count : ℕ
  pub within : count ≤ number
  pub fits : length (plain_bytes (message_with count)) ≤ limit
  pub longest : (other : ℕ) → other ≤ number → length (plain_bytes (message_with other)) ≤ limit → other ≤ count
  pub spelled : bytes ≡ plain_bytes (message_with count)

-- the header of a reply; OVERFLOW says that some items are left out
abbrev pub reply_header : Heading → Bool → Header
reply_header h is_cut =
    record { flags = record { overflow = is_cut; fresh = false; multicast = false }; xid = h.xid; language = h.language }

-- the same with so many items of all
abbrev pub cut_header : Heading → ℕ → ℕ → Header
cut_header h number count = reply_header h (nat_lt count number)

-- the reply to a service request with the first so many items
abbrev pub services_with : Heading → List UrlEntry → ℕ → Message
services_with h items count = message.ServiceReply (cut_header h (length items) count) (Found (take count items))

-- the reply to an attribute request with the first so many attributes, as they are written
abbrev pub attributes_with : Heading → List (List ℕ) → ℕ → Message
attributes_with h texts count =
    message.AttributeReply (cut_header h (length texts) count) (attribute_reply.Found (comma_list (take count texts)))

-- the reply to a type request with the first so many types
abbrev pub types_with : Heading → List (List ℕ) → ℕ → Message
types_with h types count =
    message.TypeReply (cut_header h (length types) count) (type_reply.Found (comma_list (take count types)))
