-- What a question asks (RFC 2608, sections 8.1, 10.1 and 10.3).
use Rattle.std.specs.Prelude.{ℕ, Bool, List, [], ◌∷◌, Option, Some, None, if◌then◌else◌}
use Rattle.std.specs.List.{list_any, slice_split}
use Rattle.std.specs.Option.{option_map}
use Rattle.std.specs.Result.{result_ok}
use Rattle.slp_text.specs.Keys.{key_of, trimmed_text}
use Rattle.slp_scopes.specs.Scopes.{scopes_of}
use Rattle.slp_text.specs.Lists.{is_comma}
use Rattle.slp_tags.specs.Tags.{Part, tags_of}
use Rattle.slp_text.specs.Words.{bytes_eq}
use Rattle.search_filter.specs.Filters.{Filter}
use Rattle.search_filter.specs.Reading.{predicate_in}
use Rattle.slp_messages.specs.declared.header.Header.{Header}
use Rattle.slp_messages.specs.declared.message.AttributeRequest.{AttributeRequest}
use Rattle.slp_messages.specs.declared.message.Authority as wire
use Rattle.slp_messages.specs.declared.message.Authority.TheVariants as wire_authority
use Rattle.slp_messages.specs.declared.message.ServiceRequest.{ServiceRequest}
use Rattle.slp_messages.specs.declared.message.TypeRequest.{TypeRequest}
use Rattle.service_url.specs.Types.{is_directory_agent, is_service_agent, named_authority, type_of}
use Rattle.service_url.specs.Urls.{url_of}
use Rattle.addresses.specs.Addresses.{address_text}
use Rattle.directory_questions.specs.declared.query.Authority.{Authority}
use Rattle.directory_questions.specs.declared.query.Authority.TheVariants as authority
use Rattle.directory_questions.specs.declared.query.Target.{Target}
use Rattle.directory_questions.specs.declared.query.Target.TheVariants.{Kind, Place}
use Rattle.directory_questions.specs.declared.question.Question.{Question}
use Rattle.directory_questions.specs.declared.question.Question.TheVariants.{Silent, Unreadable, Services, Attributes, Types, Agents}

-- ---- who answered already

-- a text is one of the parts that stand between commas, without the white space at their ends
abbrev pub names : List ℕ → List ℕ → Bool
names responders text = list_any (λ part. bytes_eq (trimmed_text part) text) (slice_split is_comma responders)

-- the address, as it is printed, is one of those that have answered
abbrev pub has_answered : ℕ → List ℕ → Bool
has_answered own responders = names responders (address_text own)

-- a question to an address, unless that has answered already
abbrev pub unless_answered : ℕ → List ℕ → Question → Question
unless_answered own responders q = if has_answered own responders then Silent else q

-- ---- service requests

-- by the predicate that is read, if it is
abbrev pub services_by : Header → List ℕ → List (List ℕ) → Option (Option Filter) → Question
services_by h kind scopes None = Unreadable
services_by h kind scopes (Some filter) =
    Services (record { kind = kind; scopes = scopes; language = key_of h.language; filter = filter })

-- by the scopes that are read, if they are
abbrev pub services_in : Header → List ℕ → Option (List (List ℕ)) → Option (Option Filter) → Question
services_in h kind None filter = Unreadable
services_in h kind (Some scopes) filter = services_by h kind scopes filter

-- directory agents are asked for: in which scopes, where they and the predicate are read; no predicate is asked of an agent
abbrev pub agents_in : List ℕ → Option (List (List ℕ)) → Option (Option Filter) → Question
agents_in kind scopes None = Agents (record { kind = kind; scopes = None })
agents_in kind scopes (Some filter) = Agents (record { kind = kind; scopes = scopes })

-- by the type that is read, if it is
abbrev pub services_as : Header → Option (List ℕ) → Option (List (List ℕ)) → Option (Option Filter) → Question
services_as h None scopes filter = Unreadable
services_as h (Some kind) scopes filter =
    if is_directory_agent kind then agents_in kind scopes filter
    else (if is_service_agent kind then Silent else services_in h kind scopes filter)

-- what a SrvRqst asks, by its texts
abbrev pub service_question : Header → ServiceRequest → Question
service_question h q =
    services_as h (result_ok (type_of q.kind)) (result_ok (scopes_of q.scopes)) (result_ok (predicate_in q.predicate))

-- ---- attribute requests

-- a type where the text reads as one, else a URL
abbrev pub target_as : Option (List ℕ) → Option (List ℕ) → Option Target
target_as (Some kind) url = Some (Kind kind)
target_as None url = option_map Place url

-- what an AttrRqst is about: a type, or a URL
abbrev pub target_of : List ℕ → Option Target
target_of text = target_as (result_ok (type_of text)) (result_ok (url_of text))

-- of what, in which scopes and which tags, each if it is read
abbrev pub attributes_as : Header → Option Target → Option (List (List ℕ)) → Option (List Part) → Question
attributes_as h (Some target) (Some scopes) (Some tags) =
    Attributes (record { target = target; scopes = scopes; language = key_of h.language; tags = tags })
attributes_as h (Some target) (Some scopes) None = Unreadable
attributes_as h (Some target) None tags = Unreadable
attributes_as h None scopes tags = Unreadable

-- what an AttrRqst asks, by its texts
abbrev pub attribute_question : Header → AttributeRequest → Question
attribute_question h q = attributes_as h (target_of q.subject) (result_ok (scopes_of q.scopes)) (result_ok (tags_of q.tags))

-- ---- type requests

-- the empty text asks for types without a naming authority
abbrev pub authority_by_name : List ℕ → Option Authority
authority_by_name [] = Some authority.Unnamed
authority_by_name (b ∷ bs) = option_map authority.Named (result_ok (named_authority (b ∷ bs)))

-- the naming authority that is asked for, if its name is one
abbrev pub authority_asked : wire.Authority → Option Authority
authority_asked wire_authority.All = Some authority.All
authority_asked (wire_authority.Named text) = authority_by_name text

-- whose, and in which scopes, each if it is read
abbrev pub types_as : Option Authority → Option (List (List ℕ)) → Question
types_as (Some whose) (Some scopes) = Types (record { authority = whose; scopes = scopes })
types_as (Some whose) None = Unreadable
types_as None scopes = Unreadable

-- what a SrvTypeRqst asks, by its texts
abbrev pub type_question : TypeRequest → Question
type_question q = types_as (authority_asked q.authority) (result_ok (scopes_of q.scopes))
