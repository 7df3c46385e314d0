-- Which bytes spell a message (RFC 2608, sections 8 to 10).
use Rattle.std.specs.List.{AllByRecursion}
use Rattle.std.specs.Prelude.{ℕ, ◌^◌, ◌<◌, List, length, ◌≡◌, ◌+◌, ◌++◌}
use Rattle.slp_messages.specs.Layouts.{service_request, registration, withdrawal, acknowledgement, attribute_request, type_request, service_agent, services, attributes, directory_agent, types, of_services, of_attributes, of_directory_agent, of_types}
use Rattle.slp_messages.specs.Messages.{header_of, function_of, IsMessage}
use Rattle.slp_messages.specs.declared.message.Message.TheVariants as message
use Rattle.slp_messages.specs.declared.message.Message.{Message}
use Rattle.slp_headers.specs.Headers.{Heading, heading_bytes, flags_of, word_of, frame_bytes}
use Rattle.slp_headers.specs.declared.beginning.TheConstants.{VERSION}
use Rattle.slp_headers.specs.declared.offset.TheConstants as offset
use Rattle.slp_fields.specs.Spelling.{SpellsLayout, layout_bytes}
pub use Rattle.slp_fields.specs.Writing.{longest}
use Rattle.slp_wire.specs.Extensions.{Extension, IsSkipped, begins_at, chain_bytes}
use Rattle.slp_bodies.specs.Replies.{SpellsReply, reply_bytes}

-- ---- bodies

abbrev pub SpellsBody : List ℕ → Message → Type 0
SpellsBody body (message.ServiceRequest h q) = SpellsLayout service_request body q
SpellsBody body (message.ServiceReply h r) = SpellsReply services body (of_services r)
SpellsBody body (message.Registration h r) = SpellsLayout registration body r
SpellsBody body (message.Withdrawal h w) = SpellsLayout withdrawal body w
SpellsBody body (message.Acknowledgement h code) = SpellsLayout acknowledgement body code
SpellsBody body (message.AttributeRequest h q) = SpellsLayout attribute_request body q
SpellsBody body (message.AttributeReply h r) = SpellsReply attributes body (of_attributes r)
SpellsBody body (message.DirectoryAdvert h a) = SpellsReply directory_agent body (of_directory_agent a)
SpellsBody body (message.TypeRequest h q) = SpellsLayout type_request body q
SpellsBody body (message.TypeReply h r) = SpellsReply types body (of_types r)
SpellsBody body (message.ServiceAdvert h a) = SpellsLayout service_agent body a

-- ---- whole messages

-- the offset at which the body ends
abbrev pub body_end : Message → List ℕ → ℕ
body_end m body = offset.TAG + length (header_of m).language + length body

-- a header in front of this body and these extensions, with a word of flags
abbrev pub heading_for : Message → ℕ → List ℕ → List Extension → Heading
heading_for m word body extensions = record {
  version = VERSION;
  function = function_of m;
  length = body_end m body + length (chain_bytes (body_end m body) extensions);
  flags = word;
  extension = begins_at (body_end m body) extensions;
  xid = (header_of m).xid;
  language = (header_of m).language;
}

-- all of the bytes spell the message; reserved flags and reserved bytes may be any, and extensions that are skipped may follow the body
pub record Spells (bytes : List ℕ) (m : Message) : Type 0 where
  pub sound : IsMessage m
  pub word : ℕ
  pub word_fits : word < 2 ^ 16
  pub flags : flags_of word ≡ (header_of m).flags
  pub body : List ℕ
  pub spells : SpellsBody body m
  pub extensions : List Extension
  pub skipped : AllByRecursion IsSkipped extensions
  pub framing : bytes ≡ heading_bytes (heading_for m word body extensions) ++ (body ++ chain_bytes (body_end m body) extensions)
  pub short : length bytes < 2 ^ 24

-- ---- what is written: the one spelling with zeros in the reserved places, nothing after a nonzero code, and no extension

-- the bytes of its body
abbrev pub body_of : Message → List ℕ
body_of (message.ServiceRequest h q) = layout_bytes service_request q
body_of (message.ServiceReply h r) = reply_bytes services (of_services r)
body_of (message.Registration h r) = layout_bytes registration r
body_of (message.Withdrawal h w) = layout_bytes withdrawal w
body_of (message.Acknowledgement h code) = layout_bytes acknowledgement code
body_of (message.AttributeRequest h q) = layout_bytes attribute_request q
body_of (message.AttributeReply h r) = reply_bytes attributes (of_attributes r)
body_of (message.DirectoryAdvert h a) = reply_bytes directory_agent (of_directory_agent a)
body_of (message.TypeRequest h q) = layout_bytes type_request q
body_of (message.TypeReply h r) = reply_bytes types (of_types r)
body_of (message.ServiceAdvert h a) = layout_bytes service_agent a

-- the bytes of a message without extensions
abbrev pub plain_bytes : Message → List ℕ
plain_bytes m =
    frame_bytes (function_of m) (word_of (header_of m).flags) (header_of m).xid (header_of m).language (body_of m)
