-- What scopes, rules and templates allow, in the words of an operator: a registration, an update or a withdrawal that makes its change.
use Rattle.std.specs.Prelude.{◌≡◌, ℕ, ◌<◌, Bool, true, false, List, [], ◌∷◌, length, Contains, Some, None, Ok, IsTrue}
use Rattle.std.specs.FinMap as fin
use Rattle.slp_text.specs.Keys.{key_of}
use Rattle.slp_scopes.specs.Scopes.{scopes_of}
use Rattle.slp_text.specs.Sets.{common_keys}
use Rattle.slp_tags.specs.Tags.{Part, tags_of}
use Rattle.slp_messages.specs.declared.header.Header.{Header}
use Rattle.slp_messages.specs.declared.message.Message.{Message}
use Rattle.slp_messages.specs.declared.message.Message.TheVariants as message
use Rattle.slp_messages.specs.declared.message.Registration.{Registration}
use Rattle.slp_messages.specs.declared.message.Withdrawal.{Withdrawal}
use Rattle.service_url.specs.Urls.{url_of}
use Rattle.access_rules.specs.Deciding.{deciding, deed}
use Rattle.access_rules.specs.declared.rule.Action.{Action}
use Rattle.access_rules.specs.declared.rule.Action.TheVariants as action
use Rattle.attr_list.specs.Maps.{attributes_without}
use Rattle.srv_template.specs.Conformity.{ConformsTo}
use Rattle.registry_core.specs.Entries.{Entries, Pair}
use Rattle.registry_core.specs.declared.entry.Entry.{Entry}
use Rattle.directory_judge.specs.History.{Event}
use Rattle.directory_judge.specs.Judgements.{Grounds, act_of, concerned_entries, pair_in, particulars, removal_event, resulting_attributes, withdrawal_event}
use Rattle.directory_judge.specs.Meaning.{AreLive}
use Rattle.directory_judge.specs.declared.particulars.Particulars.{Particulars}
use Rattle.directory_questions.specs.Calls.{Standpoint}
use Rattle.directory_questions.specs.Verdicts.{grounds}

-- the rules let the asker do it with what a registrant has of the type, in each of the scopes
abbrev pub IsRuledIn : Grounds → Action → List ℕ → ℕ → List (List ℕ) → Type 0
IsRuledIn g action kind registrant scopes =
    (s : List ℕ) → Contains scopes s → IsTrue (deciding g.rules (deed g.asker action kind registrant) s).allow

-- ---- registrations and updates

-- what is live of a pair is replaced or updated only where the asker may register that, too
abbrev pub MayReplace : Grounds → Pair → Type 0
MayReplace g q = (e : Entry) → fin.get g.live q ≡ Some e → IsRuledIn g action.Register e.kind e.owner e.scopes

-- an update is of what is live of its pair, with the same type and scopes, which the asker may register, too
pub record MayUpdate (g : Grounds) (q : Pair) (named : Particulars) : Type 0 where
  pub entry : Entry
  pub live : fin.get g.live q ≡ Some entry
  pub kind : entry.kind ≡ named.kind
  pub scopes : entry.scopes ≡ named.scopes
  pub ruled : IsRuledIn g action.Register entry.kind entry.owner entry.scopes

-- a fresh registration may replace what stands of its pair, another may update it
abbrev pub MayFollow : Bool → Grounds → Pair → Particulars → Type 0
MayFollow true g q named = MayReplace g q
MayFollow false g q named = MayUpdate g q named

-- there is room for what is new
abbrev pub HasRoom : Grounds → Pair → Type 0
HasRoom g q = fin.get g.live q ≡ None → fin.len g.live < g.site.capacity

-- A registration makes its change: all that it names is read, some of its scopes are the site's, the rules allow its type in
-- each of these, what is live of its pair may be replaced or is what it updates, what would stand conforms to the template,
-- and there is room.
pub record RegistrationIsAllowed (g : Grounds) (h : Header) (r : Registration) (event : Event) : Type 0 where
  pub named : Particulars
  pub reads : particulars g.site h r ≡ Ok named
  pub in_scope : 0 < length named.scopes
  pub ruled : IsRuledIn g action.Register named.kind g.asker named.scopes
  pub follows : MayFollow h.flags.fresh g (pair_in h r) named
  pub conforms : ConformsTo g.site.templates named.kind
      (resulting_attributes h.flags.fresh named (fin.get g.live (pair_in h r)))
  pub room : HasRoom g (pair_in h r)
  pub is : event ≡ record { moment = g.now; act = act_of g h r named }

-- ---- withdrawals

-- a URL is withdrawn: something live is registered with it in just these scopes, and the rules allow that of each such entry
pub record UrlIsReleased (g : Grounds) (url : List ℕ) (scopes : List (List ℕ)) (event : Event) : Type 0 where
  pub entry : Entry
  pub concerned : Contains (concerned_entries g url scopes) entry
  pub ruled : (e : Entry) → Contains (concerned_entries g url scopes) e → IsRuledIn g action.Withdraw e.kind e.owner e.scopes
  pub is : event ≡ withdrawal_event g url scopes

-- tags are withdrawn: the entry is live, in just these scopes, the rules allow it, and what is left conforms to the template
pub record TagsAreReleased (g : Grounds) (q : Pair) (tags : List Part) (scopes : List (List ℕ))
    (event : Event) : Type 0 where
  pub entry : Entry
  pub live : fin.get g.live q ≡ Some entry
  pub same : entry.scopes ≡ scopes
  pub ruled : IsRuledIn g action.Withdraw entry.kind entry.owner entry.scopes
  pub conforms : ConformsTo g.site.templates entry.kind (attributes_without entry.attrs tags)
  pub is : event ≡ removal_event g q tags

-- a list of tags that has no part withdraws the whole
abbrev pub IsReleased : Grounds → Pair → List Part → List (List ℕ) → Event → Type 0
IsReleased g q [] scopes event = UrlIsReleased g q.0 scopes event
IsReleased g q (p ∷ ps) scopes event = TagsAreReleased g q (p ∷ ps) scopes event

-- a withdrawal makes its change: all that it names is read, some of its scopes are the site's, and what it names is released
pub record WithdrawalIsAllowed (g : Grounds) (h : Header) (w : Withdrawal) (event : Event) : Type 0 where
  pub url : List ℕ
  pub tags : List Part
  pub scopes : List (List ℕ)
  pub reads_url : url_of w.entry.url ≡ Ok url
  pub reads_tags : tags_of w.tags ≡ Ok tags
  pub reads_scopes : scopes_of w.scopes ≡ Ok scopes
  pub in_scope : 0 < length (common_keys g.site.scopes scopes)
  pub released : IsReleased g (url, key_of h.language) tags (common_keys g.site.scopes scopes) event

-- ---- messages

-- a message is allowed to make this change, on these grounds; what asks for no change is allowed none
abbrev pub IsAllowedOn : Grounds → Message → Event → Type 0
IsAllowedOn g (message.Registration h r) event = RegistrationIsAllowed g h r event
IsAllowedOn g (message.Withdrawal h w) event = WithdrawalIsAllowed g h w event
IsAllowedOn g (message.ServiceRequest h q) event = ⊥
IsAllowedOn g (message.ServiceReply h r) event = ⊥
IsAllowedOn g (message.Acknowledgement h code) event = ⊥
IsAllowedOn g (message.AttributeRequest h q) event = ⊥
IsAllowedOn g (message.AttributeReply h r) event = ⊥
IsAllowedOn g (message.DirectoryAdvert h a) event = ⊥
IsAllowedOn g (message.TypeRequest h q) event = ⊥
IsAllowedOn g (message.TypeReply h r) event = ⊥
IsAllowedOn g (message.ServiceAdvert h a) event = ⊥

-- template, scope and rules allow the event that a message asks for, over what is live where it is asked
pub record IsAllowed (from : Standpoint) (sent : Message) (event : Event) : Type 0 where
  pub live : Entries
  pub are_live : AreLive from.history from.moment live
  pub allowed : IsAllowedOn (grounds from live) sent event
