-- Which entries answer a question, and what is answered of them (RFC 2608, sections 8.2, 10.2 and 10.4).
use Rattle.std.specs.Prelude.{◌≡◌, ℕ, ◌-◌, ◌≤◌, Bool, true, false, ◌&&◌, is_none, is_some, List, map, Contains, Option, Some, None, IsTrue}
use Rattle.std.specs.FinMap as fin
use Rattle.std.specs.Option.{option_map_or}
use Rattle.attr_list.specs.Lists.{Attributes}
use Rattle.attr_list.specs.Maps.{joined_attributes, selected_attributes}
use Rattle.attr_list.specs.Texts.{attribute_text}
use Rattle.access_rules.specs.Deciding.{SiteRules, deciding, deed}
use Rattle.access_rules.specs.declared.rule.Action.TheVariants.{See}
use Rattle.registry_core.specs.declared.entry.Entry.{Entry}
use Rattle.service_url.specs.Types.{authority_of, covers}
use Rattle.slp_text.specs.Words.{bytes_eq, IsAscending}
use Rattle.search_filter.specs.Filters.{holds}
use Rattle.slp_messages.specs.declared.message.UrlEntry.{UrlEntry}
use Rattle.directory_judge.specs.History.{now}
use Rattle.directory_judge.specs.Meaning.{Live, rules}
use Rattle.directory_judge.specs.Sites.{Site}
use Rattle.directory_questions.specs.Calls.{Standpoint}
use Rattle.directory_questions.specs.Sights.{asked_scopes, seen_entry}
use Rattle.directory_questions.specs.declared.query.AttrQuery.{AttrQuery}
use Rattle.directory_questions.specs.declared.query.Authority.{Authority}
use Rattle.directory_questions.specs.declared.query.Authority.TheVariants as authority
use Rattle.directory_questions.specs.declared.query.ServiceQuery.{ServiceQuery}
use Rattle.directory_questions.specs.declared.query.Target.{Target}
use Rattle.directory_questions.specs.declared.query.Target.TheVariants.{Kind, Place}
use Rattle.directory_questions.specs.declared.query.TypeQuery.{TypeQuery}

-- some scope of the entry, of the request and of the site is one in which the asker may see what its owner registered of its
-- type
pub record Open (rs : SiteRules) (site : Site) (asker : ℕ) (asked : List (List ℕ)) (e : Entry) : Type 0 where
  pub scope : List ℕ
  pub stored : Contains e.scopes scope
  pub requested : Contains asked scope
  pub supported : Contains site.scopes scope
  pub allowed : IsTrue (deciding rs (deed asker See e.kind e.owner) scope).allow

-- what is seen of an entry that is live, and open to the asker in the scopes that are asked for: the entry with what is
-- shown of it there
pub record IsOpenNow (from : Standpoint) (asked : List (List ℕ)) (e : Entry) : Type 0 where
  pub entry : Entry
  pub live : Live from.history from.moment entry
  pub open_to : Open (rules from.opening.rules from.history) from.opening.site from.asker asked entry
  pub seen : e ≡ seen_entry (rules from.opening.rules from.history) from.asker (asked_scopes from.opening.site asked) entry

-- the entry is one of those that are open, and is of what is asked about
pub record Matches (IsOpen : Entry → Type 0) (is_about : Entry → Bool) (e : Entry) : Type 0 where
  pub opened : IsOpen e
  pub about : IsTrue (is_about e)

-- something matches, but nothing in the language
pub record IsElsewhere (P : Entry → Type 0) (language : List ℕ) : Type 0 where
  pub other : Entry
  pub matched : P other
  pub none : (e : Entry) → P e → bytes_eq e.language language ≡ false

-- ---- services

-- of a type that the one asked for covers
abbrev pub is_covered : ServiceQuery → Entry → Bool
is_covered q e = covers q.kind e.kind

-- it is asked for: any is where there is no filter, else those in the language on whose attributes the filter holds
abbrev pub is_wanted : ServiceQuery → Entry → Bool
is_wanted q e = option_map_or (λ f. bytes_eq e.language q.language && holds f e.attrs) q.filter true

-- the entry matches, and is asked for
pub record Answers (IsOpen : Entry → Type 0) (q : ServiceQuery) (e : Entry) : Type 0 where
  pub matched : Matches IsOpen (is_covered q) e
  pub wanted : IsTrue (is_wanted q e)

-- there is a filter, and something matches, but nothing in the language that is asked for
pub record IsForeign (IsOpen : Entry → Type 0) (q : ServiceQuery) : Type 0 where
  pub filtered : IsTrue (is_some q.filter)
  pub elsewhere : IsElsewhere (Matches IsOpen (is_covered q)) q.language

-- the URL of an entry of which P holds, with the greatest remaining lifetime of all such entries of the URL
pub record IsItem (P : Entry → Type 0) (moment : ℕ) (i : UrlEntry) : Type 0 where
  pub from : Entry
  pub answers : P from
  pub url : from.url ≡ i.url
  pub lifetime : i.lifetime ≡ from.deadline - moment
  pub greatest : (e : Entry) → P e → e.url ≡ i.url → e.deadline ≤ from.deadline

-- the URLs of the entries of which P holds, none missing and none besides, each once, in byte order
pub record AreItems (P : Entry → Type 0) (moment : ℕ) (items : List UrlEntry) : Type 0 where
  pub ordered : IsAscending (map (λ i. i.url) items)
  pub each : (i : UrlEntry) → Contains items i → IsItem P moment i
  pub all : (e : Entry) → P e → Contains (map (λ i. i.url) items) e.url

-- the answer set of a service request
abbrev pub AreServices : Standpoint → ServiceQuery → List UrlEntry → Type 0
AreServices from q items = AreItems (Answers (IsOpenNow from q.scopes) q) (now from.history from.moment) items

-- ---- attributes

-- of the URL, or of a type that the one asked for covers
abbrev pub is_target : Target → Entry → Bool
is_target (Kind kind) e = covers kind e.kind
is_target (Place url) e = bytes_eq e.url url

-- the type that is asked about, if it is a type
abbrev pub kind_asked : Target → Option (List ℕ)
kind_asked (Kind kind) = Some kind
kind_asked (Place url) = None

-- an open entry about which an attribute request asks
abbrev pub IsAskedAbout : (Entry → Type 0) → AttrQuery → Entry → Type 0
IsAskedAbout IsOpen q = Matches IsOpen (is_target q.target)

-- it is asked about, in the language
pub record IsDescribed (IsOpen : Entry → Type 0) (q : AttrQuery) (e : Entry) : Type 0 where
  pub matched : IsAskedAbout IsOpen q e
  pub language : IsTrue (bytes_eq e.language q.language)

-- the entries of which P holds, none missing and none besides, each once, in the byte order of their URLs
pub record AreInOrder (P : Entry → Type 0) (es : List Entry) : Type 0 where
  pub ordered : IsAscending (map (λ e. e.url) es)
  pub each : (e : Entry) → Contains es e → P e
  pub all : (e : Entry) → P e → Contains es e

-- what the tags select of the attributes of these entries, joined in the byte order of their URLs
pub record AreJoined (P : Entry → Type 0) (q : AttrQuery) (a : Attributes) : Type 0 where
  pub from : List Entry
  pub in_order : AreInOrder P from
  pub joined : a ≡ selected_attributes (joined_attributes (map (λ e. e.attrs) from)) q.tags

-- the answer set of an attribute request
abbrev pub AreAttributesOf : Standpoint → AttrQuery → Attributes → Type 0
AreAttributesOf from q = AreJoined (IsDescribed (IsOpenNow from q.scopes) q) q

-- each attribute as it is written, in key order
abbrev pub attribute_texts : Attributes → List (List ℕ)
attribute_texts a = map (λ p. attribute_text p.0 p.1) (fin.entries a)

-- ---- types

-- of a type with the naming authority that is asked for
abbrev pub is_under : Authority → Entry → Bool
is_under authority.All e = true
is_under authority.Unnamed e = is_none (authority_of e.kind)
is_under (authority.Named name) e = option_map_or (λ own. bytes_eq own name) (authority_of e.kind) false

-- an open entry whose type a type request asks for
abbrev pub IsNamed : (Entry → Type 0) → TypeQuery → Entry → Type 0
IsNamed IsOpen q = Matches IsOpen (is_under q.authority)

-- the types of the entries of which P holds, none missing and none besides, each once, in key order
pub record AreTypes (P : Entry → Type 0) (types : List (List ℕ)) : Type 0 where
  pub ordered : IsAscending types
  pub each : (t : List ℕ) → Contains types t → (e : Entry) × P e × (e.kind ≡ t)
  pub all : (e : Entry) → P e → Contains types e.kind

-- the answer set of a type request
abbrev pub AreTypesOf : Standpoint → TypeQuery → List (List ℕ) → Type 0
AreTypesOf from q = AreTypes (IsNamed (IsOpenNow from q.scopes) q)
