-- What is answered to bytes, and which change comes of them.
use Rattle.std.specs.Prelude.{◌≡◌, ◌⊎◌, ℕ, Bool, true, false, ◌==◌, List, [], ◌∷◌, ◌++◌, codes, length, Option, Some, None, Result, Ok, Err, if◌then◌else◌}
use Rattle.std.specs.List.{list_any}
use Rattle.std.specs.Option.{option_map_or}
use Rattle.slp_headers.specs.Headers.{Heading, heading_of}
use Rattle.addresses.specs.Addresses.{address_text}
use Rattle.slp_scopes.specs.Scopes.{printed_scopes}
use Rattle.slp_wire.specs.Reading.{reading}
use Rattle.slp_wire.specs.Spelling.{plain_bytes}
use Rattle.slp_fields.specs.declared.fault.WireFault.{WireFault}
use Rattle.slp_messages.specs.declared.code.TheConstants.{OK}
use Rattle.slp_messages.specs.declared.function.TheConstants.{DIRECTORY_ADVERT}
use Rattle.slp_messages.specs.declared.message.DirectoryAdvert.TheVariants as directory_advert
use Rattle.slp_messages.specs.declared.message.Message.{Message}
use Rattle.slp_messages.specs.declared.message.Message.TheVariants as message
use Rattle.slp_messages.specs.declared.message.UrlEntry.{UrlEntry}
use Rattle.attr_list.specs.Lists.{Attributes}
use Rattle.registry_core.specs.declared.entry.Entry.{Entry}
use Rattle.directory_judge.specs.History.{History, Event, now}
use Rattle.directory_judge.specs.Judgements.{Judgement, by_step, code_by, supports}
use Rattle.directory_judge.specs.declared.reason.Because.{Because}
use Rattle.directory_judge.specs.Sites.{Site}
use Rattle.directory_judge.specs.declared.reason.Decider.TheVariants as decider
use Rattle.directory_questions.specs.Items.{Answers, AreItems, AreJoined, AreTypes, attribute_texts, IsAskedAbout, IsDescribed, IsElsewhere, IsForeign, IsNamed, IsOpenNow, kind_asked}
use Rattle.directory_questions.specs.Calls.{Opening, Call, standpoint_of}
use Rattle.directory_questions.specs.Cuts.{attributes_with, IsCut, reply_header, services_with, types_with}
use Rattle.directory_questions.specs.Outcomes.{Outcome, silence, outcome, sent_of, code_outcome, code_outcome_as, denial_outcome, fault_outcome, acknowledgement_of}
use Rattle.directory_questions.specs.Questions.{attribute_question, service_question, type_question, unless_answered}
use Rattle.directory_questions.specs.Requests.{is_change_function}
use Rattle.directory_questions.specs.Verdicts.{IsVerdict, change_in}
use Rattle.directory_questions.specs.declared.query.AttrQuery.{AttrQuery}
use Rattle.directory_questions.specs.declared.query.ServiceQuery.{ServiceQuery}
use Rattle.directory_questions.specs.declared.query.TypeQuery.{TypeQuery}
use Rattle.directory_questions.specs.declared.question.Question.{Question}
use Rattle.directory_questions.specs.declared.question.Question.TheVariants.{Silent, Unreadable, Agents}
use Rattle.directory_questions.specs.declared.question.Question.TheVariants as question

-- ---- which bytes ask for a change

-- a readable header of a registration or a withdrawal
unfoldable pub is_change_of : List ℕ → Bool
is_change_of bytes = option_map_or (λ h. is_change_function h.function) (heading_of bytes) false

-- ---- what a directory says of itself

-- the boot stamp, the address to which the question came, and the scopes of the site (RFC 2608, section 8.5)
abbrev pub advert_of : Site → ℕ → Heading → Message
advert_of site own h = message.DirectoryAdvert (reply_header h false) (directory_advert.Present
    (record {
      boot = site.boot;
      url = codes "service:directory-agent://" ++ address_text own;
      scopes = printed_scopes site.scopes;
      attributes = [];
      indices = [];
    }))

-- who asks for directory agents is answered by an advert, also with a code
abbrev pub advert_code : Heading → ℕ → Because → Outcome
advert_code h code because = code_outcome_as h code because DIRECTORY_ADVERT

-- a DAAdvert, and that nobody had to decide (RFC 2608, section 8.5)
abbrev pub advert_outcome : Site → ℕ → Heading → List ℕ → Outcome
advert_outcome site own h kind =
    outcome (sent_of h OK false (plain_bytes (advert_of site own h))) OK (by_step decider.Nobody (Some kind))

-- some scope is supported, or none is named
abbrev pub is_agent_for : Site → List (List ℕ) → Bool
is_agent_for site [] = true
is_agent_for site (s ∷ scopes) = list_any (supports site) (s ∷ scopes)

-- who asks for agents of a type, in these scopes, if they were read
abbrev pub agents_outcome : Site → ℕ → Heading → List ℕ → Option (List (List ℕ)) → Outcome
agents_outcome site own h kind None = advert_code h (code_by decider.Parse) (by_step decider.Parse None)
agents_outcome site own h kind (Some scopes) = if is_agent_for site scopes then advert_outcome site own h kind
    else advert_code h (code_by decider.Scope) (by_step decider.Scope (Some kind))

-- ---- what bytes ask for

-- what is asked for, as far as it can be said without a history
pub data Sense : Type 0 where
  -- what comes of it is the same at every history
  Settled : Outcome → Sense
  -- services are asked for
  Lists : Heading → ServiceQuery → Sense
  -- attributes are asked for
  Describes : Heading → AttrQuery → Sense
  -- types are asked for
  Names : Heading → TypeQuery → Sense
  -- a change is asked for
  Changes : Heading → Message → Sense

-- what is asked in these scopes, of a type if one is named, where the site supports one of them
abbrev pub sense_within : Site → Heading → List (List ℕ) → Option (List ℕ) → Sense → Sense
sense_within site h scopes kind sense =
    if list_any (supports site) scopes then sense
    else Settled (code_outcome h (code_by decider.Scope) (by_step decider.Scope kind))

-- of a question: nothing, a fault, or what is asked within scopes
abbrev pub sense_of_question : Site → ℕ → Heading → Question → Sense
sense_of_question site own h Silent = Settled silence
sense_of_question site own h Unreadable = Settled (denial_outcome h decider.Parse)
sense_of_question site own h (question.Services q) = sense_within site h q.scopes (Some q.kind) (Lists h q)
sense_of_question site own h (question.Attributes q) = sense_within site h q.scopes (kind_asked q.target) (Describes h q)
sense_of_question site own h (question.Types q) = sense_within site h q.scopes None (Names h q)
sense_of_question site own h (Agents q) = Settled (agents_outcome site own h q.kind q.scopes)

-- what a message asks of the directory at an address, where it asks for no change
abbrev pub question_of : ℕ → Message → Question
question_of own (message.ServiceRequest header q) = unless_answered own q.responders (service_question header q)
question_of own (message.AttributeRequest header q) = unless_answered own q.responders (attribute_question header q)
question_of own (message.TypeRequest header q) = unless_answered own q.responders (type_question q)
question_of own (message.Registration header r) = Silent
question_of own (message.Withdrawal header w) = Silent
question_of own (message.ServiceReply header r) = Silent
question_of own (message.Acknowledgement header code) = Silent
question_of own (message.AttributeReply header r) = Silent
question_of own (message.DirectoryAdvert header a) = Silent
question_of own (message.TypeReply header r) = Silent
question_of own (message.ServiceAdvert header a) = Silent

-- of a message: a change, a question, or nothing that is answered
abbrev pub sense_of_message : Site → ℕ → Heading → Message → Sense
sense_of_message site own h (message.Registration header r) = Changes h (message.Registration header r)
sense_of_message site own h (message.Withdrawal header w) = Changes h (message.Withdrawal header w)
sense_of_message site own h (message.ServiceRequest header q) =
    sense_of_question site own h (question_of own (message.ServiceRequest header q))
sense_of_message site own h (message.AttributeRequest header q) =
    sense_of_question site own h (question_of own (message.AttributeRequest header q))
sense_of_message site own h (message.TypeRequest header q) =
    sense_of_question site own h (question_of own (message.TypeRequest header q))
sense_of_message site own h (message.ServiceReply header r) = Settled silence
sense_of_message site own h (message.Acknowledgement header code) = Settled silence
sense_of_message site own h (message.AttributeReply header r) = Settled silence
sense_of_message site own h (message.DirectoryAdvert header a) = Settled silence
sense_of_message site own h (message.TypeReply header r) = Settled silence
sense_of_message site own h (message.ServiceAdvert header a) = Settled silence

-- of a message that is read; what is not read is answered by a fault
abbrev pub sense_of_reading : Site → ℕ → Heading → Result Message WireFault → Sense
sense_of_reading site own h (Ok m) = sense_of_message site own h m
sense_of_reading site own h (Err e) = Settled (fault_outcome h e)

-- nothing is asked where no header is readable
abbrev pub sense_under : Site → ℕ → Option Heading → Result Message WireFault → Sense
sense_under site own None read = Settled silence
sense_under site own (Some h) read = sense_of_reading site own h read

-- what a call asks for, by its bytes
abbrev pub sense_of : Site → Call → Sense
sense_of site c = sense_under site c.own (heading_of c.bytes) (reading c.bytes)

-- ---- what is answered

-- of items that are listed in a message as many are sent as fit
pub record IsCutReply {A : Type 0} (listed : List A → ℕ → Message) (limit : ℕ) (h : Heading) (because : Because)
    (items : List A) (r : Outcome) : Type 0 where
  pub whole : List ℕ
  pub cut : IsCut (length items) (listed items) limit whole
  pub sent : r ≡ outcome (sent_of h OK (length items == 0) whole) OK because

-- services are found among the entries that are open, at a moment
pub record IsServiceAnswer (IsOpen : Entry → Type 0) (at limit : ℕ) (h : Heading) (q : ServiceQuery)
    (r : Outcome) : Type 0 where
  pub items : List UrlEntry
  pub are : AreItems (Answers IsOpen q) at items
  pub reply : IsCutReply (services_with h) limit h (by_step decider.Nobody (Some q.kind)) items r

-- attributes are found among the entries that are open
pub record IsAttributeAnswer (IsOpen : Entry → Type 0) (limit : ℕ) (h : Heading) (q : AttrQuery) (r : Outcome) : Type 0 where
  pub attributes : Attributes
  pub are : AreJoined (IsDescribed IsOpen q) q attributes
  pub reply : IsCutReply (attributes_with h) limit h (by_step decider.Nobody (kind_asked q.target))
      (attribute_texts attributes) r

-- types are found among the entries that are open
pub record IsTypeAnswer (IsOpen : Entry → Type 0) (limit : ℕ) (h : Heading) (q : TypeQuery) (r : Outcome) : Type 0 where
  pub types : List (List ℕ)
  pub are : AreTypes (IsNamed IsOpen q) types
  pub reply : IsCutReply (types_with h) limit h (by_step decider.Nobody None) types r

-- the denial where nothing is in the language that is asked for
abbrev pub language_outcome : Heading → Option (List ℕ) → Outcome
language_outcome h kind = code_outcome h (code_by decider.Language) (by_step decider.Language kind)

-- services are listed, or there are none in the language
abbrev pub IsListed : (Entry → Type 0) → ℕ → ℕ → Heading → ServiceQuery → Outcome → Type 0
IsListed IsOpen at limit h q r = (IsForeign IsOpen q × (r ≡ language_outcome h (Some q.kind)))
    ⊎ ((¬ IsForeign IsOpen q) × IsServiceAnswer IsOpen at limit h q r)

-- attributes are joined, or there are none in the language
abbrev pub IsDescription : (Entry → Type 0) → ℕ → Heading → AttrQuery → Outcome → Type 0
IsDescription IsOpen limit h q r =
    (IsElsewhere (IsAskedAbout IsOpen q) q.language × (r ≡ language_outcome h (kind_asked q.target)))
    ⊎ ((¬ IsElsewhere (IsAskedAbout IsOpen q) q.language) × IsAttributeAnswer IsOpen limit h q r)

-- what may come of a sense at a history, and the change that is made
abbrev pub IsAnswerTo : Opening → History → Call → Sense → Outcome → Option Event → Type 0
IsAnswerTo o h c (Settled it) r change = (r ≡ it) × (change ≡ None)
IsAnswerTo o h c (Lists head q) r change =
    IsListed (IsOpenNow (standpoint_of o h c) q.scopes) (now h c.moment) c.limit head q r × (change ≡ None)
IsAnswerTo o h c (Describes head q) r change =
    IsDescription (IsOpenNow (standpoint_of o h c) q.scopes) c.limit head q r × (change ≡ None)
IsAnswerTo o h c (Names head q) r change =
    IsTypeAnswer (IsOpenNow (standpoint_of o h c) q.scopes) c.limit head q r × (change ≡ None)
IsAnswerTo o h c (Changes head m) r change =
    (v : Judgement) × IsVerdict (standpoint_of o h c) m v × (r ≡ acknowledgement_of head v) × (change ≡ change_in v)

-- what may come of bytes at a history, and the change that is made
unfoldable pub IsAnswer : Opening → History → Call → Outcome → Option Event → Type 0
IsAnswer o h c r change = IsAnswerTo o h c (sense_of o.site c) r change

-- ---- who sees what

-- the scopes in which a question asks
abbrev pub scopes_in : Sense → List (List ℕ)
scopes_in (Settled it) = []
scopes_in (Lists h q) = q.scopes
scopes_in (Describes h q) = q.scopes
scopes_in (Names h q) = q.scopes
scopes_in (Changes h m) = []

-- who asks sees this of an entry that is live, and open to it in the scopes that are asked for
abbrev pub IsOpenTo : Opening → History → Call → Entry → Type 0
IsOpenTo o h c e = IsOpenNow (standpoint_of o h c) (scopes_in (sense_of o.site c)) e
