-- What is a reply to a request, and what it says (RFC 2608, sections 7 to 10).
use Rattle.std.specs.Prelude.{ℕ, Bool, ◌==◌, ◌&&◌, ◌||◌, false, List, Option, Some, None, Result, Ok, Err, if◌then◌else◌}
use Rattle.std.specs.Option.{option_map_or, option_and_then}
use Rattle.slp_fields.specs.declared.fault.WireFault.{WireFault}
use Rattle.slp_headers.specs.Headers.{Heading, heading_of, has_flag, reply_function_of}
use Rattle.slp_headers.specs.declared.beginning.TheConstants.{VERSION}
use Rattle.slp_headers.specs.declared.flag.TheConstants.{OVERFLOW}
use Rattle.slp_messages.specs.declared.function.TheConstants.{SERVICE_REQUEST, DIRECTORY_ADVERT}
use Rattle.slp_messages.specs.declared.message.AttributeReply.TheVariants as attribute_reply
use Rattle.slp_messages.specs.declared.message.DirectoryAdvert.TheVariants as directory_advert
use Rattle.slp_messages.specs.declared.message.Message.{Message}
use Rattle.slp_messages.specs.declared.message.Message.TheVariants as message
use Rattle.slp_messages.specs.declared.message.ServiceReply.TheVariants as service_reply
use Rattle.slp_messages.specs.declared.message.TypeReply.TheVariants as type_reply
use Rattle.slp_wire.specs.Reading.{reading}
use Rattle.agent_clients.specs.declared.fault.ClientFault.TheVariants.{Code, Partial}
use Rattle.agent_clients.specs.declared.items.Items.TheVariants.{Urls, Attributes, Types, Acknowledged, Advert}
use Rattle.agent_clients.specs.declared.replies.Brought.{Brought}
use Rattle.agent_clients.specs.declared.replies.Brought.TheVariants.{Nothing, Cut, Replied}

-- a message of this function replies to one of that function; a directory agent may tell of itself to who asks for services
abbrev pub answers : ℕ → ℕ → Bool
answers asked replied = option_map_or (λ f. f == replied) (reply_function_of asked) false || (asked == SERVICE_REQUEST && replied == DIRECTORY_ADVERT)

-- the header of a reply to the request with that header
abbrev pub is_reply_to : Heading → Heading → Bool
is_reply_to asked replied = replied.version == VERSION && replied.xid == asked.xid && answers asked.function replied.function

-- the header in front of bytes, where it is that of a reply to the request
abbrev pub reply_heading : List ℕ → List ℕ → Option Heading
reply_heading request bytes = option_and_then (λ asked. option_and_then (λ h. if is_reply_to asked h then Some h else None) (heading_of bytes)) (heading_of request)

abbrev pub is_cut : Heading → Bool
is_cut h = has_flag OVERFLOW h.flags

-- the code of a reply instead of what it would hold
abbrev pub refused : ℕ → Brought
refused code = Replied (Err (Code code))

-- what a reply says
abbrev pub said_in : Message → Brought
said_in (message.ServiceReply h (service_reply.Found entries)) = Replied (Ok (Urls entries))
said_in (message.ServiceReply h (service_reply.Refused code)) = refused code
said_in (message.Acknowledgement h code) = if code == 0 then Replied (Ok Acknowledged) else refused code
said_in (message.AttributeReply h (attribute_reply.Found list)) = Replied (Ok (Attributes list))
said_in (message.AttributeReply h (attribute_reply.Refused code)) = refused code
said_in (message.DirectoryAdvert h (directory_advert.Present agent)) = Replied (Ok (Advert agent.url agent.scopes))
said_in (message.DirectoryAdvert h (directory_advert.Refused code)) = refused code
said_in (message.TypeReply h (type_reply.Found list)) = Replied (Ok (Types list))
said_in (message.TypeReply h (type_reply.Refused code)) = refused code
said_in (message.ServiceRequest h q) = Nothing
said_in (message.Registration h r) = Nothing
said_in (message.Withdrawal h w) = Nothing
said_in (message.AttributeRequest h q) = Nothing
said_in (message.TypeRequest h q) = Nothing
said_in (message.ServiceAdvert h a) = Nothing

-- what comes of bytes that are read: of those that are no message nothing
abbrev pub as_read : (Message → Brought) → Result Message WireFault → Brought
as_read says (Ok m) = says m
as_read says (Err e) = Nothing

-- What a datagram brings: it is skipped where it is no reply to the request. One that says that it was cut brings that alone, even where it was cut short on its way.
abbrev pub by_datagram : List ℕ → List ℕ → Brought
by_datagram request bytes = option_map_or (λ h. if is_cut h then Cut else as_read said_in (reading bytes)) (reply_heading request bytes) Nothing

-- a message that was cut counts for nothing on a stream: there is no other way to get the rest
abbrev pub unless_cut : Heading → Message → Brought
unless_cut h m = if is_cut h then Replied (Err Partial) else said_in m

-- what a message on a stream brings: it is skipped where it is no whole reply to the request
abbrev pub by_stream : List ℕ → List ℕ → Brought
by_stream request bytes = option_map_or (λ h. as_read (unless_cut h) (reading bytes)) (reply_heading request bytes) Nothing
