-- What users are promised of each thing that happens.
use Rattle.std.specs.Prelude.{◌≡◌, ◌≢◌, ◌↔◌, ℕ, Bool, true, false, if◌then◌else◌, List, [], ◌∷◌, ◌++◌, codes, length, Option, Some, None, Result, Ok, Err}
use Rattle.std.specs.Fmt.{decimal}
use Rattle.slp_headers.specs.Headers.{Heading, fields_of, flags_of, heading_of, refusal_bytes, reply_function_of}
use Rattle.slp_messages.specs.declared.code.TheConstants.{OK}
use Rattle.slp_messages.specs.declared.function.TheConstants.{DIRECTORY_ADVERT}
use Rattle.slp_messages.specs.declared.message.Message.{Message}
use Rattle.slp_messages.specs.declared.message.UrlEntry.{UrlEntry}
use Rattle.slp_fields.specs.declared.fault.WireFault.{WireFault}
use Rattle.slp_wire.specs.Reading.{reading}
use Rattle.slp_wire.specs.Spelling.{plain_bytes}
use Rattle.attr_list.specs.Lists.{Attributes}
use Rattle.access_rules.specs.Deciding.{SiteRules, deciding, deed}
use Rattle.access_rules.specs.declared.rule.Action.{Action}
use Rattle.directory_judge.specs.History.{Event, History}
use Rattle.directory_judge.specs.Judgements.{code_by, decider_of, decider_text}
use Rattle.directory_judge.specs.Meaning.{rules}
use Rattle.directory_judge.specs.declared.reason.Because.{Because}
use Rattle.directory_judge.specs.declared.reason.Decider.TheVariants as decider
use Rattle.directory_questions.specs.Answers.{Sense, Settled, Lists, Describes, Names, Changes, advert_of, question_of, sense_of}
use Rattle.directory_questions.specs.Calls.{Opening, Call, Standpoint, standpoint_of}
use Rattle.directory_questions.specs.Cuts.{attributes_with, services_with, types_with}
use Rattle.directory_questions.specs.Items.{AreAttributesOf, AreServices, AreTypesOf, attribute_texts}
use Rattle.directory_questions.specs.Outcomes.{Outcome, code_sent, sent_of}
use Rattle.directory_questions.specs.Requests.{action_of}
use Rattle.directory_questions.specs.Verdicts.{IsLegal}
use Rattle.directory_questions.specs.declared.question.Question.{Question}
use Rattle.directory_questions.specs.declared.question.Question.TheVariants.{Silent, Unreadable, Agents}
use Rattle.directory_questions.specs.declared.question.Question.TheVariants as question
use Rattle.slp_replies.specs.Tellings.{line_of}
use Rattle.slp_replies.specs.Audits.{rule_named}
use Rattle.history_log.specs.Pasts.{IsPast}
use Rattle.directory_runs.specs.Allowing.{IsAllowed}
use Rattle.directory_runs.specs.Runs.{Happening, Publish, Sweep, Reload, Entry, Look, Tell, Learn, Refusal, Run, World, happened, world}

-- ---- a reply

-- it has the flag that says that items are left out (RFC 2608, section 8)
abbrev pub is_overflowed : List ℕ → Bool
is_overflowed reply = (flags_of (fields_of reply).flags).overflow

-- the reply is the site's advert, at the address to which it was asked (RFC 2608, section 8.5)
abbrev pub IsAdvert : Opening → Call → List ℕ → Type 0
IsAdvert o c reply =
    (head : Heading) × (heading_of c.bytes ≡ Some head) × (reply ≡ plain_bytes (advert_of o.site c.own head))

-- The reply is the message of exactly the services, the attributes or the types that answer, all of them; what is the same
-- at every history is the site's advert. An acknowledgement holds nothing.
abbrev pub HoldsExactly : Opening → History → Call → Sense → List ℕ → Type 0
HoldsExactly o h c (Lists head q) reply = (items : List UrlEntry) × AreServices (standpoint_of o h c) q items
    × (reply ≡ plain_bytes (services_with head items (length items)))
HoldsExactly o h c (Describes head q) reply = (a : Attributes) × AreAttributesOf (standpoint_of o h c) q a
    × (reply ≡ plain_bytes (attributes_with head (attribute_texts a) (length (attribute_texts a))))
HoldsExactly o h c (Names head q) reply = (types : List (List ℕ)) × AreTypesOf (standpoint_of o h c) q types
    × (reply ≡ plain_bytes (types_with head types (length types)))
HoldsExactly o h c (Settled it) reply = IsAdvert o c reply
HoldsExactly o h c (Changes head sent) reply = Unit {0}

-- ---- a denial

-- a rule that decided is the one that decides on what was asked, in the scope that is named, and denies it; by default no
-- rule fits
pub record IsRuledOut (rs : SiteRules) (asker : ℕ) (action : Action) (because : Because) : Type 0 where
  pub kind : List ℕ
  pub registrant : ℕ
  pub scope : List ℕ
  pub of_kind : because.kind ≡ Some kind
  pub in_scope : because.scope ≡ Some scope
  pub denied : (deciding rs (deed asker action kind registrant) scope).allow ≡ false
  pub by : because.decider ≡ decider_of (deciding rs (deed asker action kind registrant) scope)

-- who asks for directory agents, in a message that is read (RFC 2608, section 8.1)
abbrev pub is_for_agents : Question → Bool
is_for_agents (Agents q) = true
is_for_agents Silent = false
is_for_agents Unreadable = false
is_for_agents (question.Services q) = false
is_for_agents (question.Attributes q) = false
is_for_agents (question.Types q) = false

-- the message that is read asks for directory agents
abbrev pub asks_for_agents : ℕ → Result Message WireFault → Bool
asks_for_agents own (Ok sent) = is_for_agents (question_of own sent)
asks_for_agents own (Err e) = false

-- the function of a reply: that of what was asked, or an advert to who asks for directory agents
abbrev pub answering_function : Call → Heading → Option ℕ
answering_function c head =
    if asks_for_agents c.own (reading c.bytes) then Some DIRECTORY_ADVERT else reply_function_of head.function

-- A denial has the code of who decided, in the reply, of which none goes out to what was sent to many, and in its line,
-- which names who decided: a rule by its name.
pub record IsDenial (rs : SiteRules) (c : Call) (head : Heading) (r : Outcome) (code : ℕ) (because : Because) : Type 0 where
  pub coded : code ≡ code_by because.decider
  pub carried : (function : ℕ) × (answering_function c head ≡ Some function)
      × (r.reply ≡ sent_of head code false (refusal_bytes function code head.xid head.language))
  pub line : (rest : List ℕ)
      × (line_of rs c.asker (Some head) r ≡ codes "# deny code=" ++ decimal code ++ codes " by="
      ++ decider_text (rule_named rs because.decider) because.decider ++ codes " action=" ++ rest)
  pub by_rule : (index : ℕ) → because.decider ≡ decider.Rule index → IsRuledOut rs c.asker (action_of head) because
  pub by_default : because.decider ≡ decider.Default → IsRuledOut rs c.asker (action_of head) because

-- every denial among what may come of bytes is one
abbrev pub DenialsAreKept : SiteRules → Call → Outcome → Type 0
DenialsAreKept rs c r = (code : ℕ) (because : Because) → r.verdict ≡ Some (code, because) → code ≢ OK → (head : Heading)
    × (heading_of c.bytes ≡ Some head) × IsDenial rs c head r code because

-- ---- what happens

-- A loop answers at one published state, which begins with all that the loop had seen and was told. A reply of code 0
-- without the flag holds exactly what is live, matches and is open to the asker there.
pub record IsReplyKept (o : Opening) (w : World) (loop : ℕ) (c : Call) (r : Outcome) : Type 0 where
  pub legal : IsLegal o w.published
  pub known : IsPast (w.seen loop) w.published
  pub exact : code_sent r ≡ Some OK → is_overflowed r.reply ≡ false
      → HoldsExactly o w.published c (sense_of o.site c) r.reply
  pub denials : DenialsAreKept (rules o.rules w.published) c r

-- what bytes ask for is allowed
abbrev pub IsAllowedBy : Standpoint → Sense → Event → Type 0
IsAllowedBy from (Changes head sent) event = IsAllowed from sent event
IsAllowedBy from (Settled it) event = ⊥
IsAllowedBy from (Lists head q) event = ⊥
IsAllowedBy from (Describes head q) event = ⊥
IsAllowedBy from (Names head q) event = ⊥

-- a change is published exactly where it is allowed, and else what is published stays
pub record IsChangeKept (o : Opening) (w : World) (c : Call) (r : Outcome) (change : Option Event) : Type 0 where
  pub legal : IsLegal o w.published
  pub exact : (event : Event) → ((happened w (Publish c r change)).published ≡ event ∷ w.published)
      ↔ IsAllowedBy (standpoint_of o w.published c) (sense_of o.site c) event
  pub kept : change ≡ None → (happened w (Publish c r change)).published ≡ w.published
  pub denials : DenialsAreKept (rules o.rules w.published) c r

-- what is promised of a thing that happens to a world
abbrev pub IsKept : Opening → World → Happening → Type 0
IsKept o w (Entry loop c r) = IsReplyKept o w loop c r
IsKept o w (Publish c r change) = IsChangeKept o w c r change
IsKept o w (Sweep m) = Unit {0}
IsKept o w (Reload m rs) = Unit {0}
IsKept o w (Look loop) = Unit {0}
IsKept o w Tell = Unit {0}
IsKept o w (Learn loop n) = Unit {0}
IsKept o w Refusal = Unit {0}

-- it is so of each thing that happened
abbrev pub IsKeptThroughout : Opening → Run → Type 0
IsKeptThroughout o [] = Unit {0}
IsKeptThroughout o (e ∷ es) = IsKept o (world es) e × IsKeptThroughout o es
