-- What messages say whose texts are lent.
use Rattle.slp_messages.specs.declared.header.Header.{Header}
use Rattle.slp_messages.specs.declared.message.AttributeRequest.{AttributeRequest}
use Rattle.slp_messages.specs.declared.message.Authority.{Authority}
use Rattle.slp_messages.specs.declared.message.Authority.TheVariants as authority
use Rattle.slp_messages.specs.declared.message.Message.{Message}
use Rattle.slp_messages.specs.declared.message.Message.TheVariants as message
use Rattle.slp_messages.specs.declared.message.Registration.{Registration}
use Rattle.slp_messages.specs.declared.message.ServiceRequest.{ServiceRequest}
use Rattle.slp_messages.specs.declared.message.TypeRequest.{TypeRequest}
use Rattle.slp_messages.specs.declared.message.UrlEntry.{UrlEntry}
use Rattle.slp_messages.specs.declared.message.Withdrawal.{Withdrawal}
use Rattle.slp_messages.specs.declared.views.AttributeRequestView.{AttributeRequestView}
use Rattle.slp_messages.specs.declared.views.AuthorityView.{AuthorityView}
use Rattle.slp_messages.specs.declared.views.AuthorityView.TheVariants as authority_view
use Rattle.slp_messages.specs.declared.views.ChangeView.{ChangeView}
use Rattle.slp_messages.specs.declared.views.ChangeView.TheVariants as change
use Rattle.slp_messages.specs.declared.views.EntryView.{EntryView}
use Rattle.slp_messages.specs.declared.views.KeptHeader.{KeptHeader}
use Rattle.slp_messages.specs.declared.views.RegistrationView.{RegistrationView}
use Rattle.slp_messages.specs.declared.views.ServiceRequestView.{ServiceRequestView}
use Rattle.slp_messages.specs.declared.views.TypeRequestView.{TypeRequestView}
use Rattle.slp_messages.specs.declared.views.WithdrawalView.{WithdrawalView}

abbrev pub header_in : KeptHeader → Header
header_in v = record { flags = v.flags; xid = v.xid; language = v.language.now }

abbrev pub entry_in : EntryView → UrlEntry
entry_in v = record { lifetime = v.lifetime; url = v.url.now }

abbrev pub request_in : ServiceRequestView → ServiceRequest
request_in v = record { responders = v.responders.now; kind = v.kind.now; scopes = v.scopes.now; predicate = v.predicate.now }

abbrev pub attribute_request_in : AttributeRequestView → AttributeRequest
attribute_request_in v = record { responders = v.responders.now; subject = v.subject.now; scopes = v.scopes.now; tags = v.tags.now }

abbrev pub authority_in : AuthorityView → Authority
authority_in authority_view.All = authority.All
authority_in (authority_view.Named name) = authority.Named name.now

abbrev pub type_request_in : TypeRequestView → TypeRequest
type_request_in v = record { responders = v.responders.now; authority = authority_in v.authority; scopes = v.scopes.now }

abbrev pub registration_in : RegistrationView → Registration
registration_in v = record { entry = entry_in v.entry; kind = v.kind.now; scopes = v.scopes.now; attributes = v.attributes.now }

abbrev pub withdrawal_in : WithdrawalView → Withdrawal
withdrawal_in v = record { scopes = v.scopes.now; entry = entry_in v.entry; tags = v.tags.now }

-- a message that asks for a change
abbrev pub message_in : ChangeView → Message
message_in (change.Registration h r) = message.Registration (header_in h) (registration_in r)
message_in (change.Withdrawal h w) = message.Withdrawal (header_in h) (withdrawal_in w)
