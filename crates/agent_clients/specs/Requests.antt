-- What the builders of requests answer.
use Rattle.std.specs.Prelude.{◌≡◌, ◌⊎◌, ◌≤◌, ◌<◌, ℕ, Bool, false, ◌&&◌, nat_le, List, length, Option, Some, None}
use Rattle.std.specs.List.{list_all}
use Rattle.slp_messages.specs.Messages.{header_of, IsMessage}
use Rattle.slp_messages.specs.Tags.{is_tag_byte}
use Rattle.slp_messages.specs.declared.header.Header.{Header}
use Rattle.slp_messages.specs.declared.message.Authority.{Authority}
use Rattle.slp_messages.specs.declared.message.Authority.TheVariants.{All, Named}
use Rattle.slp_messages.specs.declared.message.Message.{Message}
use Rattle.slp_wire.specs.Spelling.{plain_bytes, longest}
use Rattle.agent_clients.specs.declared.fault.ClientFault.{ClientFault}
use Rattle.agent_clients.specs.declared.fault.ClientFault.TheVariants.{NoMemory, TooLong}
use Rattle.agent_clients.specs.declared.requests.RequestHeader.{RequestHeader}

-- a language tag that is readable
abbrev pub is_tag : List ℕ → Bool
is_tag tag = nat_le (length tag) 64 && list_all is_tag_byte tag

-- the header of a request, which is sent to one
abbrev pub request_header : Bool → RequestHeader → Header
request_header fresh h = record { flags = record { overflow = false; fresh = fresh; multicast = false }; xid = h.xid; language = h.language.now }

-- whose types are asked for
abbrev pub authority_of : Option (List ℕ) → Authority
authority_of None = All
authority_of (Some name) = Named name

-- no message of at most 65,535 bytes with a readable tag is this one
abbrev pub IsTooLong : Message → Type 0
IsTooLong m = (is_tag (header_of m).language ≡ false) ⊎ (longest < length (plain_bytes m))

-- these bytes spell the message, with zeros in each reserved place
pub record IsSpelled (m : Message) (bytes : List ℕ) : Type 0 where
  pub sound : IsMessage m
  pub spelled : bytes ≡ plain_bytes m
  pub short : length bytes ≤ longest

-- why no bytes are given for a message
abbrev pub IsUnbuilt : Message → ClientFault → Type 0
IsUnbuilt m e = (e ≡ NoMemory) ⊎ ((e ≡ TooLong) × IsTooLong m)
