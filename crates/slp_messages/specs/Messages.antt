-- Messages: their headers, their functions, and what of them the wire can hold (RFC 2608, sections 8 to 10).
use Rattle.std.specs.Prelude.{ℕ, ◌^◌, ◌<◌}
use Rattle.slp_messages.specs.Layouts.{FitsLayout, IsReply, service_request, registration, withdrawal, acknowledgement, attribute_request, type_request, service_agent, services, attributes, directory_agent, types, of_services, of_attributes, of_directory_agent, of_types}
use Rattle.slp_messages.specs.Tags.{IsTag}
use Rattle.slp_messages.specs.declared.function.TheConstants.{SERVICE_REQUEST, SERVICE_REPLY, REGISTRATION, WITHDRAWAL, ACKNOWLEDGEMENT, ATTRIBUTE_REQUEST, ATTRIBUTE_REPLY, DIRECTORY_ADVERT, TYPE_REQUEST, TYPE_REPLY, SERVICE_ADVERT}
use Rattle.slp_messages.specs.declared.header.Header.{Header}
use Rattle.slp_messages.specs.declared.message.Message.TheVariants as message
use Rattle.slp_messages.specs.declared.message.Message.{Message}

-- the header of a message
abbrev pub header_of : Message → Header
header_of (message.ServiceRequest h q) = h
header_of (message.ServiceReply h r) = h
header_of (message.Registration h r) = h
header_of (message.Withdrawal h w) = h
header_of (message.Acknowledgement h code) = h
header_of (message.AttributeRequest h q) = h
header_of (message.AttributeReply h r) = h
header_of (message.DirectoryAdvert h a) = h
header_of (message.TypeRequest h q) = h
header_of (message.TypeReply h r) = h
header_of (message.ServiceAdvert h a) = h

-- the number of a message's function
abbrev pub function_of : Message → ℕ
function_of (message.ServiceRequest h q) = SERVICE_REQUEST
function_of (message.ServiceReply h r) = SERVICE_REPLY
function_of (message.Registration h r) = REGISTRATION
function_of (message.Withdrawal h w) = WITHDRAWAL
function_of (message.Acknowledgement h code) = ACKNOWLEDGEMENT
function_of (message.AttributeRequest h q) = ATTRIBUTE_REQUEST
function_of (message.AttributeReply h r) = ATTRIBUTE_REPLY
function_of (message.DirectoryAdvert h a) = DIRECTORY_ADVERT
function_of (message.TypeRequest h q) = TYPE_REQUEST
function_of (message.TypeReply h r) = TYPE_REPLY
function_of (message.ServiceAdvert h a) = SERVICE_ADVERT

-- each field of the header has a value that fits
pub record IsHeader (h : Header) : Type 0 where
  pub xid : h.xid < 2 ^ 16
  pub language : IsTag h.language

-- each field of the body has a value that its layout can hold
abbrev pub IsBody : Message → Type 0
IsBody (message.ServiceRequest h q) = FitsLayout service_request q
IsBody (message.ServiceReply h r) = IsReply services (of_services r)
IsBody (message.Registration h r) = FitsLayout registration r
IsBody (message.Withdrawal h w) = FitsLayout withdrawal w
IsBody (message.Acknowledgement h code) = FitsLayout acknowledgement code
IsBody (message.AttributeRequest h q) = FitsLayout attribute_request q
IsBody (message.AttributeReply h r) = IsReply attributes (of_attributes r)
IsBody (message.DirectoryAdvert h a) = IsReply directory_agent (of_directory_agent a)
IsBody (message.TypeRequest h q) = FitsLayout type_request q
IsBody (message.TypeReply h r) = IsReply types (of_types r)
IsBody (message.ServiceAdvert h a) = FitsLayout service_agent a

-- the fields of a message hold what their places on the wire can
pub record IsMessage (m : Message) : Type 0 where
  pub header : IsHeader (header_of m)
  pub body : IsBody m
