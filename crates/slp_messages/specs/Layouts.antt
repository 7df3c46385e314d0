-- The layout of each body: which fields it has, in their order, and what they hold (RFC 2608, sections 8 to 10).
use Rattle.std.specs.Prelude.{ℕ, List, [], ◌∷◌}
use Rattle.slp_messages.specs.Fields.{Values, AreFit, IsRefusal}
use Rattle.slp_messages.specs.declared.kind.Kind.TheVariants.{Number, Long, Text, Entry, Entries, Authority, NoBlock, NoIndex}
use Rattle.slp_messages.specs.declared.kind.Kind.{Kind}
use Rattle.slp_messages.specs.declared.message.AttributeReply.TheVariants as attribute_reply
use Rattle.slp_messages.specs.declared.message.AttributeReply.{AttributeReply}
use Rattle.slp_messages.specs.declared.message.AttributeRequest.{AttributeRequest}
use Rattle.slp_messages.specs.declared.message.DirectoryAdvert.TheVariants as directory_advert
use Rattle.slp_messages.specs.declared.message.DirectoryAdvert.{DirectoryAdvert}
use Rattle.slp_messages.specs.declared.message.DirectoryAgent.{DirectoryAgent}
use Rattle.slp_messages.specs.declared.message.Registration.{Registration}
use Rattle.slp_messages.specs.declared.message.ServiceAgent.{ServiceAgent}
use Rattle.slp_messages.specs.declared.message.ServiceReply.TheVariants as service_reply
use Rattle.slp_messages.specs.declared.message.ServiceReply.{ServiceReply}
use Rattle.slp_messages.specs.declared.message.ServiceRequest.{ServiceRequest}
use Rattle.slp_messages.specs.declared.message.TypeReply.TheVariants as type_reply
use Rattle.slp_messages.specs.declared.message.TypeReply.{TypeReply}
use Rattle.slp_messages.specs.declared.message.TypeRequest.{TypeRequest}
use Rattle.slp_messages.specs.declared.message.UrlEntry.{UrlEntry}
use Rattle.slp_messages.specs.declared.message.Withdrawal.{Withdrawal}

-- the kinds of the fields, what they hold of a value, and the value that is made of what they hold
pub record Layout (A : Type 0) : Type 0 where
  pub kinds : List Kind
  pub held : A → Values kinds
  pub made : Values kinds → A

-- each field holds what its place can
abbrev pub FitsLayout : {A : Type 0} → Layout A → A → Type 0
FitsLayout layout a = AreFit layout.kinds (layout.held a)

-- ---- requests and adverts

-- SrvRqst: previous responders, type, scopes, predicate, no SPI (RFC 2608, section 8.1)
abbrev pub service_request : Layout ServiceRequest
service_request = record {
  kinds = Text ∷ Text ∷ Text ∷ Text ∷ NoIndex ∷ [];
  held = λ q. (q.responders, (q.kind, (q.scopes, (q.predicate, (tt, tt)))));
  made = λ v. record { responders = v.0; kind = v.1.0; scopes = v.1.1.0; predicate = v.1.1.1.0 };
}

-- SrvReg: URL entry, type, scopes, attributes, no authentication block (section 8.3)
abbrev pub registration : Layout Registration
registration = record {
  kinds = Entry ∷ Text ∷ Text ∷ Text ∷ NoBlock ∷ [];
  held = λ r. (r.entry, (r.kind, (r.scopes, (r.attributes, (tt, tt)))));
  made = λ v. record { entry = v.0; kind = v.1.0; scopes = v.1.1.0; attributes = v.1.1.1.0 };
}

-- SrvDeReg: scopes, URL entry, tags (section 10.6)
abbrev pub withdrawal : Layout Withdrawal
withdrawal = record {
  kinds = Text ∷ Entry ∷ Text ∷ [];
  held = λ w. (w.scopes, (w.entry, (w.tags, tt)));
  made = λ v. record { scopes = v.0; entry = v.1.0; tags = v.1.1.0 };
}

-- a code, which may be 0
abbrev pub acknowledgement : Layout ℕ
acknowledgement = record {
  kinds = Number ∷ [];
  held = λ code. (code, tt);
  made = λ v. v.0;
}

-- AttrRqst: previous responders, URL or type, scopes, tags, no SPI (section 10.3)
abbrev pub attribute_request : Layout AttributeRequest
attribute_request = record {
  kinds = Text ∷ Text ∷ Text ∷ Text ∷ NoIndex ∷ [];
  held = λ q. (q.responders, (q.subject, (q.scopes, (q.tags, (tt, tt)))));
  made = λ v. record { responders = v.0; subject = v.1.0; scopes = v.1.1.0; tags = v.1.1.1.0 };
}

-- SrvTypeRqst: previous responders, naming authority, scopes (section 10.1)
abbrev pub type_request : Layout TypeRequest
type_request = record {
  kinds = Text ∷ Authority ∷ Text ∷ [];
  held = λ q. (q.responders, (q.authority, (q.scopes, tt)));
  made = λ v. record { responders = v.0; authority = v.1.0; scopes = v.1.1.0 };
}

-- SAAdvert: URL, scopes, attributes, no authentication block (section 8.6)
abbrev pub service_agent : Layout ServiceAgent
service_agent = record {
  kinds = Text ∷ Text ∷ Text ∷ NoBlock ∷ [];
  held = λ a. (a.url, (a.scopes, (a.attributes, (tt, tt))));
  made = λ v. record { url = v.0; scopes = v.1.0; attributes = v.1.1.0 };
}

-- ---- replies: a code, and after the code 0 what was found

-- what a reply has after its error code: a body where that is 0, else nothing
pub data ReplyBody (A : Type 0) : Type 0 where
  Found : A → ReplyBody A
  Refused : ℕ → ReplyBody A

-- each field of what was found holds what its place can, or the code is not 0
abbrev pub IsReply : {A : Type 0} → Layout A → ReplyBody A → Type 0
IsReply layout (Found a) = FitsLayout layout a
IsReply layout (Refused code) = IsRefusal code

-- the body of a SrvRply: URL entries (section 8.2)
abbrev pub services : Layout (List UrlEntry)
services = record {
  kinds = Entries ∷ [];
  held = λ entries. (entries, tt);
  made = λ v. v.0;
}

-- the body of an AttrRply: an attribute list, no authentication block (section 10.4)
abbrev pub attributes : Layout (List ℕ)
attributes = record {
  kinds = Text ∷ NoBlock ∷ [];
  held = λ list. (list, (tt, tt));
  made = λ v. v.0;
}

-- the body of a DAAdvert: boot stamp, URL, scopes, attributes, SPIs, no authentication block (section 8.5)
abbrev pub directory_agent : Layout DirectoryAgent
directory_agent = record {
  kinds = Long ∷ Text ∷ Text ∷ Text ∷ Text ∷ NoBlock ∷ [];
  held = λ a. (a.boot, (a.url, (a.scopes, (a.attributes, (a.indices, (tt, tt))))));
  made = λ v. record { boot = v.0; url = v.1.0; scopes = v.1.1.0; attributes = v.1.1.1.0; indices = v.1.1.1.1.0 };
}

-- the body of a SrvTypeRply: a list of types (section 10.2)
abbrev pub types : Layout (List ℕ)
types = record {
  kinds = Text ∷ [];
  held = λ list. (list, tt);
  made = λ v. v.0;
}

-- each reply as a code and what was found
abbrev pub of_services : ServiceReply → ReplyBody (List UrlEntry)
of_services (service_reply.Found entries) = Found entries
of_services (service_reply.Refused code) = Refused code

-- an AttrRply by its body or its code
abbrev pub of_attributes : AttributeReply → ReplyBody (List ℕ)
of_attributes (attribute_reply.Found list) = Found list
of_attributes (attribute_reply.Refused code) = Refused code

-- a DAAdvert by its body or its code
abbrev pub of_directory_agent : DirectoryAdvert → ReplyBody DirectoryAgent
of_directory_agent (directory_advert.Present agent) = Found agent
of_directory_agent (directory_advert.Refused code) = Refused code

-- a SrvTypeRply by its body or its code
abbrev pub of_types : TypeReply → ReplyBody (List ℕ)
of_types (type_reply.Found list) = Found list
of_types (type_reply.Refused code) = Refused code
