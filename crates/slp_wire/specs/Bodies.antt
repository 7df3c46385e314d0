-- The body of a message, by its function (RFC 2608, section 8).
use Rattle.std.specs.Prelude.{ℕ, List, ◌==◌, if◌then◌else◌, Result, Ok, Err}
use Rattle.slp_messages.specs.Layouts.{acknowledgement}
use Rattle.slp_messages.specs.declared.function.TheConstants.{SERVICE_REQUEST, SERVICE_REPLY, REGISTRATION, WITHDRAWAL, ACKNOWLEDGEMENT, ATTRIBUTE_REQUEST, ATTRIBUTE_REPLY, DIRECTORY_ADVERT, TYPE_REQUEST, TYPE_REPLY, SERVICE_ADVERT}
use Rattle.slp_messages.specs.declared.header.Header.{Header}
use Rattle.slp_messages.specs.declared.message.Message.TheVariants as message
use Rattle.slp_messages.specs.declared.message.Message.{Message}
use Rattle.slp_fields.specs.Reading.{layout_at}
use Rattle.slp_fields.specs.Steps.{◌>>=◌}
use Rattle.slp_fields.specs.declared.fault.WireFault.TheVariants.{Unknown}
use Rattle.slp_fields.specs.declared.fault.WireFault.{WireFault}
use Rattle.slp_bodies.specs.Bodies.{service_request_at, service_reply_at, registration_at, withdrawal_at, attribute_request_at, attribute_reply_at, directory_advert_at, type_request_at, type_reply_at, service_agent_at}

-- what was read, as a message
abbrev pub as_message : {A : Type 0} → (A → Message) → Result (A × List ℕ) WireFault → Result (Message × List ℕ) WireFault
as_message f read = read >>= λ x. Ok (f x.0, x.1)

-- the body of a message of this function and with this header, of which so many bytes at the end are not part
unfoldable pub body_at : ℕ → ℕ → Header → List ℕ → Result (Message × List ℕ) WireFault
body_at function tail h bytes =
    if function == SERVICE_REQUEST then as_message (message.ServiceRequest h) (service_request_at bytes)
    else (if function == SERVICE_REPLY then as_message (message.ServiceReply h) (service_reply_at tail bytes)
    else (if function == REGISTRATION then as_message (message.Registration h) (registration_at bytes)
    else (if function == WITHDRAWAL then as_message (message.Withdrawal h) (withdrawal_at bytes)
    else (if function == ACKNOWLEDGEMENT then as_message (message.Acknowledgement h) (layout_at acknowledgement bytes)
    else (if function == ATTRIBUTE_REQUEST then as_message (message.AttributeRequest h) (attribute_request_at bytes)
    else (if function == ATTRIBUTE_REPLY then as_message (message.AttributeReply h) (attribute_reply_at tail bytes)
    else (if function == DIRECTORY_ADVERT then as_message (message.DirectoryAdvert h) (directory_advert_at tail bytes)
    else (if function == TYPE_REQUEST then as_message (message.TypeRequest h) (type_request_at bytes)
    else (if function == TYPE_REPLY then as_message (message.TypeReply h) (type_reply_at tail bytes)
    else (if function == SERVICE_ADVERT then as_message (message.ServiceAdvert h) (service_agent_at bytes)
    else Err Unknown))))))))))
