-- How registrations and withdrawals are judged: the first step whose fault is there, else they are accepted (RFC 2608,
-- sections 7, 9.3 and 10.6).
use Rattle.std.specs.Prelude.{◌≡◌, ℕ, ◌≤◌, Bool, not, ◌==◌, ◌&&◌, ◌||◌, List, [], ◌∷◌, ◌++◌, codes, map, filter, find, length, slice_get, Option, Some, None, is_none, is_some, nat_le, unwrap_or, Result, Ok, Err, if◌then◌else◌, refl}
use Rattle.std.specs.Coded as coded
use Rattle.std.specs.Coded.{Coded, coded×, coded_ℕ}
use Rattle.std.specs.Option.{option_copied, option_or, option_map, option_map_or}
use Rattle.std.specs.List.{list_any}
use Rattle.std.specs.Ordering.{match_ordering}
use Rattle.std.specs.Result.{result_ok}
use Rattle.std.specs.Arc.{arc_value}
use Rattle.std.specs.FinMap as fin
use Rattle.slp_text.specs.Keys.{key_of}
use Rattle.slp_scopes.specs.Scopes.{scopes_of}
use Rattle.slp_text.specs.Sets.{common_keys}
use Rattle.slp_tags.specs.Tags.{Part, tags_of}
use Rattle.slp_text.specs.Words.{bytes_eq, bytes_cmp, texts_eq}
use Rattle.slp_messages.specs.declared.code.TheConstants.{OK, LANGUAGE_NOT_SUPPORTED, PARSE_ERROR, INVALID_REGISTRATION, SCOPE_NOT_SUPPORTED, AUTHENTICATION_UNKNOWN, VERSION_NOT_SUPPORTED, INTERNAL_ERROR, DIRECTORY_BUSY, OPTION_NOT_UNDERSTOOD, INVALID_UPDATE}
use Rattle.slp_messages.specs.declared.header.Header.{Header}
use Rattle.slp_messages.specs.declared.message.Message.{Message}
use Rattle.slp_messages.specs.declared.message.Message.TheVariants as message
use Rattle.slp_messages.specs.declared.message.Registration.{Registration}
use Rattle.slp_messages.specs.declared.message.Withdrawal.{Withdrawal}
use Rattle.service_url.specs.Types.{type_of}
use Rattle.service_url.specs.Urls.{url_of}
use Rattle.access_rules.specs.Codes.{rules_code}
use Rattle.access_rules.specs.Deciding.{Deed, SiteRules, deciding, deed}
use Rattle.access_rules.specs.declared.rule.Action.{Action}
use Rattle.access_rules.specs.declared.rule.Action.TheVariants.{Register, Withdraw}
use Rattle.access_rules.specs.declared.rules.Verdict.{Verdict}
use Rattle.attr_list.specs.Lists.{Attributes}
use Rattle.attr_list.specs.Maps.{attributes_without, updated_attributes}
use Rattle.attr_list.specs.Reading.{attributes_in}
use Rattle.srv_template.specs.Conformity.{template_fault}
use Rattle.registry_core.specs.declared.entry.Entry.{Entry}
use Rattle.registry_core.specs.Entries.{Entries, entries_code, Pair, is_of_url, is_registered}
use Rattle.directory_judge.specs.History as history
use Rattle.directory_judge.specs.History.{Putting, Setting, Removing, Act, Put, Event}
use Rattle.directory_judge.specs.Contents.{content, content_on}
use Rattle.directory_judge.specs.Sites.{Site, site_code}
use Rattle.directory_judge.specs.declared.particulars.Particulars.{Particulars}
use Rattle.directory_judge.specs.declared.particulars.Reading.{Reading}
use Rattle.directory_judge.specs.declared.particulars.Reading.TheVariants as read
use Rattle.directory_judge.specs.declared.reason.Because.{Because}
use Rattle.directory_judge.specs.declared.reason.Decider.{Decider}
use Rattle.directory_judge.specs.declared.reason.Decider.TheVariants as decider
use Rattle.directory_judge.specs.declared.reason.Finding.{Finding}
use Rattle.directory_judge.specs.declared.change.Change.{Change}
use Rattle.directory_judge.specs.declared.change.Change.TheVariants as change
use Rattle.directory_judge.specs.declared.change.Placed.{Placed}
use Rattle.directory_judge.specs.declared.judgement.Decision.{Decision}
use Rattle.directory_judge.specs.declared.judgement.Decision.TheVariants as decision
use Rattle.directory_judge.specs.declared.copies.Judged.{Judged}
use Rattle.directory_judge.specs.declared.copies.Judged.TheVariants as judged

-- ---- what is judged on, and what comes of it

-- The rules, the site, the entries that are live, the moment at which the message acts, and who sent it
pub record Grounds : Type 0 where
  pub rules : SiteRules
  pub site : Site
  pub live : Entries
  pub now : ℕ
  pub asker : ℕ

abbrev pub grounds_code : Coded Grounds
grounds_code = coded.code_by (SiteRules × (Site × (Entries × (ℕ × ℕ))))
    (coded× rules_code (coded× site_code (coded× entries_code (coded× coded_ℕ coded_ℕ))))
    (λ g. (g.rules, (g.site, (g.live, (g.now, g.asker)))))
    (λ t. record { rules = t.0; site = t.1.0; live = t.1.1.0; now = t.1.1.1.0; asker = t.1.1.1.1 })
    (λ _. refl)

-- what is judged of a message
pub data Judgement : Type 0 where
  -- the change that it makes
  Accepts : Event → Because → Judgement
  -- no change, and nobody had to decide
  Ignores : Judgement
  -- nothing is judged of a message that asks for no change
  Waits : Judgement
  -- an error code
  Denies : ℕ → Because → Judgement

-- ---- who decided

-- who decided: the rule of the verdict, or the default
abbrev pub decider_of : Verdict → Decider
decider_of v = option_map_or decider.Rule v.rule decider.Default

-- a step's own name, with the type where one is known
abbrev pub by_step : Decider → Option (List ℕ) → Because
by_step d kind = record { decider = d; kind = kind; scope = None }

-- the rule, or the default, that decided on a type in a scope
abbrev pub because_on : Verdict → List ℕ → List ℕ → Because
because_on v kind scope = record { decider = decider_of v; kind = Some kind; scope = Some scope }

-- who decides on a deed in a scope
abbrev pub by_rule : SiteRules → Deed → List ℕ → Because
by_rule rules d scope = because_on (deciding rules d scope) d.kind scope

-- the rules deny a deed in a scope
abbrev pub is_denied : SiteRules → Deed → List ℕ → Bool
is_denied rules d scope = not (deciding rules d scope).allow

-- the code of a denial, by who decided (RFC 2608, section 7)
abbrev pub code_by : Decider → ℕ
code_by (decider.Rule index) = SCOPE_NOT_SUPPORTED
code_by decider.Default = SCOPE_NOT_SUPPORTED
code_by decider.Nobody = OK
code_by decider.Memory = INTERNAL_ERROR
code_by decider.Version = VERSION_NOT_SUPPORTED
code_by decider.Parse = PARSE_ERROR
code_by decider.Auth = AUTHENTICATION_UNKNOWN
code_by decider.Option = OPTION_NOT_UNDERSTOOD
code_by decider.Scope = SCOPE_NOT_SUPPORTED
code_by decider.Language = LANGUAGE_NOT_SUPPORTED
code_by decider.Registration = INVALID_REGISTRATION
code_by decider.Attributes = PARSE_ERROR
code_by decider.Update = INVALID_UPDATE
code_by decider.Template = INVALID_REGISTRATION
code_by decider.Full = DIRECTORY_BUSY

-- what a line calls who decided, with the name of the rule
abbrev pub decider_text : List ℕ → Decider → List ℕ
decider_text name (decider.Rule index) = codes "rule:" ++ name
decider_text name decider.Default = codes "default"
decider_text name decider.Nobody = codes "none"
decider_text name decider.Memory = codes "memory"
decider_text name decider.Version = codes "version"
decider_text name decider.Parse = codes "parse"
decider_text name decider.Auth = codes "auth"
decider_text name decider.Option = codes "option"
decider_text name decider.Scope = codes "scope"
decider_text name decider.Language = codes "language"
decider_text name decider.Registration = codes "registration"
decider_text name decider.Attributes = codes "attributes"
decider_text name decider.Update = codes "update"
decider_text name decider.Template = codes "template"
decider_text name decider.Full = codes "full"

-- a denial, by who decided on what
abbrev pub denial : Because → Judgement
denial because = Denies (code_by because.decider) because

-- who denies in the first of these scopes in which there is a denial
abbrev pub denial_of : SiteRules → Deed → List (List ℕ) → Option Because
denial_of rules d scopes = option_map (by_rule rules d) (find (is_denied rules d) scopes)

-- the denial of what the asker does to services of a type and a registrant, in the first of these scopes in which there is
-- one
abbrev pub denial_in : Grounds → Action → List ℕ → ℕ → List (List ℕ) → Option Judgement
denial_in g action kind registrant scopes =
    option_map denial (denial_of g.rules (deed g.asker action kind registrant) scopes)

-- what decides on a deed in some scopes, if there are any: what denies it in the first of them in which it is denied, else
-- what allows it in the first of all
abbrev pub ruling_on : SiteRules → Deed → List (List ℕ) → Option (Result Because Because)
ruling_on rules d scopes = option_or (option_map Err (denial_of rules d scopes)) (option_map (λ s. Ok (by_rule rules d s)) (slice_get scopes 0))

-- who decided on what, of what was found
abbrev pub because_of : Finding → Because
because_of f = record { decider = f.decider; kind = option_copied f.kind; scope = option_copied f.scope }

abbrev pub ruling_in : Finding → Result Because Because
ruling_in f = if f.allow then Ok (because_of f) else Err (because_of f)

abbrev pub finding_code : Finding → ℕ
finding_code f = if f.allow then OK else code_by f.decider

-- who decided on the type of an entry, in the first of its scopes
abbrev pub because_of_entry : Decider → Entry → Because
because_of_entry d e = record { decider = d; kind = Some e.kind; scope = slice_get e.scopes 0 }

abbrev pub because_of_placed : Decider → Placed → Because
because_of_placed d placed = because_of_entry d (arc_value placed.entry)

-- ---- what a registration names

-- a denial by a step that knows of no type
abbrev pub denial_by : Decider → Judgement
denial_by d = denial (by_step d None)

-- the URL, the type, the attributes, and those of the scopes that the site supports; or the first fault, where something is
-- not read
abbrev pub particulars_of_texts : Site → Option (List ℕ) → Option (List ℕ) → Option Attributes → Option (List (List ℕ))
    → Result Particulars Judgement
particulars_of_texts site (Some kind) (Some url) (Some attrs) (Some scopes) =
    Ok (record { url = url; kind = kind; scopes = common_keys site.scopes scopes; attrs = attrs })
particulars_of_texts site (Some kind) (Some url) (Some attrs) None = Err (denial_by decider.Parse)
particulars_of_texts site (Some kind) (Some url) None scopes = Err (denial (by_step decider.Attributes (Some kind)))
particulars_of_texts site (Some kind) None attrs scopes = Err (denial_by decider.Registration)
particulars_of_texts site None url attrs scopes = Err (denial_by decider.Registration)

-- a registration has a language and a lifetime first of all
abbrev pub particulars : Site → Header → Registration → Result Particulars Judgement
particulars site h r =
    if length h.language == 0 || r.entry.lifetime == 0 then Err (denial_by decider.Registration)
    else particulars_of_texts site (result_ok (type_of r.kind)) (result_ok (url_of r.entry.url))
    (result_ok (attributes_in r.attributes)) (result_ok (scopes_of r.scopes))

-- what the code finds of it
abbrev pub particulars_in : Reading → Result Particulars Judgement
particulars_in (read.Read p) = Ok p
particulars_in (read.Denied because) = Err (denial because)

-- the URL that is found is the one that is named, and the scopes are no more than a site has
abbrev pub AreParticularsOf : List ℕ → Reading → Type 0
AreParticularsOf url (read.Read p) = (p.url ≡ url) × (length p.scopes ≤ 16)
AreParticularsOf url (read.Denied because) = Unit {0}

-- ---- the further steps of a registration, each with the judgement where its fault is there

-- the pair of URL and language that a registration is of
abbrev pub pair_in : Header → Registration → Pair
pair_in h r = (r.entry.url, key_of h.language)

-- the site has a scope
abbrev pub supports : Site → List ℕ → Bool
supports site scope = list_any (λ s. bytes_eq s scope) site.scopes

-- none of the scopes is supported
abbrev pub denial_of_scopes : Particulars → Option Judgement
denial_of_scopes t = if length t.scopes == 0 then Some (denial (by_step decider.Scope (Some t.kind))) else None

-- its type may not be registered in some scope by its asker, who is to be its registrant
abbrev pub denial_of_new : Grounds → Particulars → Option Judgement
denial_of_new g t = denial_in g Register t.kind g.asker t.scopes

-- the type of what it would replace or update may not be registered by its asker in some scope of that, whose registrant is
-- who registered it
abbrev pub denial_of_old : Grounds → Option Entry → Option Judgement
denial_of_old g None = None
denial_of_old g (Some e) = denial_in g Register e.kind e.owner e.scopes

-- what an update is of must be live, and of just its type and scopes
abbrev pub denial_of_update : Particulars → Option Entry → Option Judgement
denial_of_update t None = Some (denial (by_step decider.Update (Some t.kind)))
denial_of_update t (Some e) =
    if not (bytes_eq e.kind t.kind) then Some (denial (by_step decider.Update (Some t.kind)))
    else if not (texts_eq e.scopes t.scopes) then Some (denial (by_step decider.Scope (Some t.kind)))
    else None

-- what is live of the pair speaks against an update, or it may not be registered
abbrev pub denial_of_live : Grounds → Bool → Particulars → Option Entry → Option Judgement
denial_of_live g fresh t o = option_or (if fresh then None else denial_of_update t o) (denial_of_old g o)

-- The attributes that an entry would have: those that are named, and of an update the others that what it updates has.
abbrev pub resulting_attributes : Bool → Particulars → Option Entry → Attributes
resulting_attributes fresh t o = if fresh then t.attrs else option_map_or (λ e. updated_attributes e.attrs t.attrs) o t.attrs

-- such attributes do not conform to the template of the type, if it has one
abbrev pub denial_of_template : Grounds → List ℕ → Attributes → Option Judgement
denial_of_template g kind a =
    if is_some (template_fault g.site.templates kind a) then Some (denial (by_step decider.Template (Some kind))) else None

-- the pair is not live, and the live entries fill the capacity
abbrev pub denial_of_room : Grounds → Pair → Particulars → Option Judgement
denial_of_room g q t =
    if is_none (fin.get g.live q) && (nat_le g.site.capacity (fin.len g.live))
    then Some (denial (by_step decider.Full (Some t.kind))) else None

-- the registration that is made
abbrev pub putting_of : Grounds → Header → Registration → Particulars → Putting
putting_of g h r t = record {
  asker = g.asker;
  url = r.entry.url;
  language = key_of h.language;
  kind = t.kind;
  scopes = t.scopes;
  attributes = t.attrs;
  lifetime = r.entry.lifetime;
}

-- the update that is made
abbrev pub setting_of : Header → Registration → Particulars → Setting
setting_of h r t =
    record { url = r.entry.url; language = key_of h.language; attributes = t.attrs; lifetime = r.entry.lifetime }

-- a fresh registration founds an entry, another updates one
abbrev pub act_of : Grounds → Header → Registration → Particulars → Act
act_of g h r t = if h.flags.fresh then Put (putting_of g h r t) else history.Set (setting_of h r t)

-- what decided on the first stored scope
abbrev pub allowance : Grounds → Particulars → Because
allowance g t = by_rule g.rules (deed g.asker Register t.kind g.asker) (unwrap_or (slice_get t.scopes 0) [])

-- of a registration by its particulars: scopes, rules, what is live, template, room; it is accepted where none of these
-- speaks against it
abbrev pub judgement_of_particulars : Grounds → Header → Registration → Particulars → Judgement
judgement_of_particulars g h r t =
    unwrap_or
    (option_or (denial_of_scopes t)
    (option_or (denial_of_new g t)
    (option_or (denial_of_live g h.flags.fresh t (fin.get g.live (pair_in h r)))
    (option_or (denial_of_template g t.kind (resulting_attributes h.flags.fresh t (fin.get g.live (pair_in h r))))
    (denial_of_room g (pair_in h r) t)))))
    (Accepts (record { moment = g.now; act = act_of g h r t }) (allowance g t))

-- of particulars that were read; else the fault by which they were not
abbrev pub judgement_of_reading : Grounds → Header → Registration → Result Particulars Judgement → Judgement
judgement_of_reading g h r (Ok t) = judgement_of_particulars g h r t
judgement_of_reading g h r (Err j) = j

-- of a registration: its particulars are read first
abbrev pub judgement_of_registration : Grounds → Header → Registration → Judgement
judgement_of_registration g h r = judgement_of_reading g h r (particulars g.site h r)

-- ---- withdrawals of a URL

-- the live entries, in the order of their pairs
abbrev pub entries_in : Entries → List Entry
entries_in m = map (λ p. p.1) (fin.entries m)

-- the one whose language comes first, of what was first so far and an entry
abbrev pub earlier_entry : Option Entry → Entry → Entry
earlier_entry None e = e
earlier_entry (Some f) e = match_ordering (bytes_cmp e.language f.language) e f f

-- the first by language, of what was first so far and further entries
abbrev pub first_from : Option Entry → List Entry → Option Entry
first_from o [] = o
first_from o (e ∷ es) = first_from (Some (earlier_entry o e)) es

-- the entry whose language comes first
abbrev pub first_of : List Entry → Option Entry
first_of = first_from None

-- some scope of it is one in which its type may not be withdrawn
abbrev pub is_kept : SiteRules → ℕ → Entry → Bool
is_kept rules asker e = list_any (is_denied rules (deed asker Withdraw e.kind e.owner)) e.scopes

-- who denies an entry's withdrawal in the first of its scopes in which there is a denial
abbrev pub denial_of_kept : Grounds → Option Entry → Option Judgement
denial_of_kept g None = None
denial_of_kept g (Some e) = denial_in g Withdraw e.kind e.owner e.scopes

-- what decided on an entry's first scope
abbrev pub release : Grounds → Entry → Because
release g e = by_rule g.rules (deed g.asker Withdraw e.kind e.owner) (unwrap_or (slice_get e.scopes 0) [])

-- that a URL is withdrawn in scopes
abbrev pub withdrawal_event : Grounds → List ℕ → List (List ℕ) → Event
withdrawal_event g url scopes = record { moment = g.now; act = history.Withdraw (record { url = url; scopes = scopes }) }

-- Where no entry is concerned the scopes are other ones. The first denial is that of the entry whose language comes first
-- among those that may not be withdrawn.
abbrev pub judgement_of_entries : Grounds → List ℕ → List (List ℕ) → Option Entry → Option Entry → Judgement
judgement_of_entries g url scopes None kept = denial_by decider.Scope
judgement_of_entries g url scopes (Some first) kept =
    unwrap_or (denial_of_kept g kept) (Accepts (withdrawal_event g url scopes) (release g first))

-- the entries concerned: those of the URL in just these scopes
abbrev pub concerned_entries : Grounds → List ℕ → List (List ℕ) → List Entry
concerned_entries g url scopes = filter (is_registered url scopes) (entries_in g.live)

-- where nothing of the URL is live, nothing is changed
abbrev pub judgement_of_url : Grounds → List ℕ → List (List ℕ) → Judgement
judgement_of_url g url scopes =
    if list_any (is_of_url url) (entries_in g.live)
    then judgement_of_entries g url scopes (first_of (concerned_entries g url scopes))
    (first_of (filter (is_kept g.rules g.asker) (concerned_entries g url scopes)))
    else Ignores

-- ---- withdrawals of tags

-- that tags are removed from what stands of a pair
abbrev pub removal_event : Grounds → Pair → List Part → Event
removal_event g q tags = record { moment = g.now; act = history.Remove (record { url = q.0; language = q.1; tags = tags }) }

-- what is live of the pair must be of just these scopes, its withdrawal allowed, and what is left of it conform; where
-- nothing is live, nothing is changed
abbrev pub judgement_of_tagged : Grounds → Pair → List Part → List (List ℕ) → Option Entry → Judgement
judgement_of_tagged g q tags scopes None = Ignores
judgement_of_tagged g q tags scopes (Some e) =
    if texts_eq e.scopes scopes
    then unwrap_or (option_or (denial_in g Withdraw e.kind e.owner e.scopes)
    (denial_of_template g e.kind (attributes_without e.attrs tags))) (Accepts (removal_event g q tags) (release g e))
    else denial_by decider.Scope

-- of a withdrawal of tags: what is live of its pair
abbrev pub judgement_of_removal : Grounds → Pair → List Part → List (List ℕ) → Judgement
judgement_of_removal g q tags scopes = judgement_of_tagged g q tags scopes (fin.get g.live q)

-- ---- withdrawals of either kind

-- a list of tags that has no part withdraws the whole
abbrev pub judgement_of_tags : Grounds → Pair → List Part → List (List ℕ) → Judgement
judgement_of_tags g q [] scopes = judgement_of_url g q.0 scopes
judgement_of_tags g q (p ∷ ps) scopes = judgement_of_removal g q (p ∷ ps) scopes

-- of a withdrawal in the scopes of it that the site supports, one at least
abbrev pub judgement_in_scopes : Grounds → Pair → List Part → List (List ℕ) → Judgement
judgement_in_scopes g q tags [] = denial_by decider.Scope
judgement_in_scopes g q tags (s ∷ ss) = judgement_of_tags g q tags (s ∷ ss)

-- a URL, a list of tags and scopes that were read, each if it is one, and the language
abbrev pub judgement_of_texts : Grounds → List ℕ → Option (List ℕ) → Option (List Part) → Option (List (List ℕ)) → Judgement
judgement_of_texts g language (Some url) (Some tags) (Some scopes) =
    judgement_in_scopes g (url, language) tags (common_keys g.site.scopes scopes)
judgement_of_texts g language (Some url) (Some tags) None = denial_by decider.Parse
judgement_of_texts g language (Some url) None scopes = denial_by decider.Parse
judgement_of_texts g language None tags scopes = denial_by decider.Parse

-- of a withdrawal: its URL, its tags and its scopes are read first
abbrev pub judgement_of_withdrawal : Grounds → Header → Withdrawal → Judgement
judgement_of_withdrawal g h w =
    judgement_of_texts g (key_of h.language) (result_ok (url_of w.entry.url)) (result_ok (tags_of w.tags))
    (result_ok (scopes_of w.scopes))

-- ---- messages that may change something

abbrev pub IsChange : Message → Type 0
IsChange (message.Registration h r) = Unit {0}
IsChange (message.Withdrawal h w) = Unit {0}
IsChange (message.ServiceRequest h q) = ⊥
IsChange (message.ServiceReply h r) = ⊥
IsChange (message.Acknowledgement h code) = ⊥
IsChange (message.AttributeRequest h q) = ⊥
IsChange (message.AttributeReply h r) = ⊥
IsChange (message.DirectoryAdvert h a) = ⊥
IsChange (message.TypeRequest h q) = ⊥
IsChange (message.TypeReply h r) = ⊥
IsChange (message.ServiceAdvert h a) = ⊥

-- what a message is judged: a registration or a withdrawal; of others nothing
abbrev pub judgement : Grounds → Message → Judgement
judgement g (message.Registration h r) = judgement_of_registration g h r
judgement g (message.ServiceRequest h q) = Waits
judgement g (message.ServiceReply h r) = Waits
judgement g (message.Acknowledgement h code) = Waits
judgement g (message.Withdrawal h w) = judgement_of_withdrawal g h w
judgement g (message.AttributeRequest h q) = Waits
judgement g (message.AttributeReply h r) = Waits
judgement g (message.DirectoryAdvert h a) = Waits
judgement g (message.TypeRequest h q) = Waits
judgement g (message.TypeReply h r) = Waits
judgement g (message.ServiceAdvert h a) = Waits

-- what was decided, with copies of what it was decided on
abbrev pub judgement_in : Decision → Judged
judgement_in (decision.Founded placed d) = judged.Accept (change.Put placed) (because_of_placed d placed)
judgement_in (decision.Edited placed d) = judged.Accept (change.Edit placed) (because_of_placed d placed)
judgement_in (decision.Accepted c because) = judged.Accept c because
judgement_in decision.Unchanged = judged.Nothing
judgement_in (decision.Denied because) = judged.Deny (code_by because.decider) because

-- the code of it, and who decided on what
abbrev pub finding_in : Judged → ℕ × Because
finding_in (judged.Accept c because) = (OK, because)
finding_in judged.Nothing = (code_by decider.Nobody, by_step decider.Nobody None)
finding_in (judged.Deny code because) = (code, because)

abbrev pub finding_of : Finding → ℕ × Because
finding_of f = (finding_code f, because_of f)

-- the change of it, if there is one
abbrev pub change_of : Judged → Option Change
change_of (judged.Accept c because) = Some c
change_of judged.Nothing = None
change_of (judged.Deny code because) = None

-- what was answered is the judgement, with a change that holds what the event asks for
abbrev pub IsJudgement : Entries → Judged → Judgement → Type 0
IsJudgement live (judged.Accept c because) j = (event : Event) × (j ≡ Accepts event because) × (content c ≡ content_on live event)
IsJudgement live judged.Nothing j = j ≡ Ignores
IsJudgement live (judged.Deny code because) j = j ≡ Denies code because
