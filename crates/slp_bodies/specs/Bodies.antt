-- Bodies as they are read (RFC 2608, sections 8 to 10). In replies so many bytes at the end are not part of them.
use Rattle.std.specs.Prelude.{ℕ, List, Result}
use Rattle.slp_messages.specs.Layouts.{service_request, registration, withdrawal, attribute_request, type_request, service_agent, services, attributes, directory_agent, types}
use Rattle.slp_messages.specs.declared.message.AttributeReply.TheVariants as attribute_reply
use Rattle.slp_messages.specs.declared.message.AttributeReply.{AttributeReply}
use Rattle.slp_messages.specs.declared.message.AttributeRequest.{AttributeRequest}
use Rattle.slp_messages.specs.declared.message.DirectoryAdvert.TheVariants as directory_advert
use Rattle.slp_messages.specs.declared.message.DirectoryAdvert.{DirectoryAdvert}
use Rattle.slp_messages.specs.declared.message.Registration.{Registration}
use Rattle.slp_messages.specs.declared.message.ServiceAgent.{ServiceAgent}
use Rattle.slp_messages.specs.declared.message.ServiceReply.TheVariants as service_reply
use Rattle.slp_messages.specs.declared.message.ServiceReply.{ServiceReply}
use Rattle.slp_messages.specs.declared.message.ServiceRequest.{ServiceRequest}
use Rattle.slp_messages.specs.declared.message.TypeReply.TheVariants as type_reply
use Rattle.slp_messages.specs.declared.message.TypeReply.{TypeReply}
use Rattle.slp_messages.specs.declared.message.TypeRequest.{TypeRequest}
use Rattle.slp_messages.specs.declared.message.Withdrawal.{Withdrawal}
use Rattle.slp_fields.specs.Reading.{layout_at}
use Rattle.slp_fields.specs.declared.fault.WireFault.{WireFault}
use Rattle.slp_bodies.specs.Replies.{reply_at}

-- a body of a SrvRqst, and the bytes after it
unfoldable pub service_request_at : List ℕ → Result (ServiceRequest × List ℕ) WireFault
service_request_at bytes = layout_at service_request bytes

-- a body of a SrvRply, and the bytes after it
unfoldable pub service_reply_at : ℕ → List ℕ → Result (ServiceReply × List ℕ) WireFault
service_reply_at tail bytes = reply_at services service_reply.Found service_reply.Refused tail bytes

-- a body of a SrvReg, and the bytes after it
unfoldable pub registration_at : List ℕ → Result (Registration × List ℕ) WireFault
registration_at bytes = layout_at registration bytes

-- a body of a SrvDeReg, and the bytes after it
unfoldable pub withdrawal_at : List ℕ → Result (Withdrawal × List ℕ) WireFault
withdrawal_at bytes = layout_at withdrawal bytes

-- a body of an AttrRqst, and the bytes after it
unfoldable pub attribute_request_at : List ℕ → Result (AttributeRequest × List ℕ) WireFault
attribute_request_at bytes = layout_at attribute_request bytes

-- a body of an AttrRply, and the bytes after it
unfoldable pub attribute_reply_at : ℕ → List ℕ → Result (AttributeReply × List ℕ) WireFault
attribute_reply_at tail bytes = reply_at attributes attribute_reply.Found attribute_reply.Refused tail bytes

-- a body of a DAAdvert, and the bytes after it
unfoldable pub directory_advert_at : ℕ → List ℕ → Result (DirectoryAdvert × List ℕ) WireFault
directory_advert_at tail bytes = reply_at directory_agent directory_advert.Present directory_advert.Refused tail bytes

-- a body of a SrvTypeRqst, and the bytes after it
unfoldable pub type_request_at : List ℕ → Result (TypeRequest × List ℕ) WireFault
type_request_at bytes = layout_at type_request bytes

-- a body of a SrvTypeRply, and the bytes after it
unfoldable pub type_reply_at : ℕ → List ℕ → Result (TypeReply × List ℕ) WireFault
type_reply_at tail bytes = reply_at types type_reply.Found type_reply.Refused tail bytes

-- a body of a SAAdvert, and the bytes after it
unfoldable pub service_agent_at : List ℕ → Result (ServiceAgent × List ℕ) WireFault
service_agent_at bytes = layout_at service_agent bytes
