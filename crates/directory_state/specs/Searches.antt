-- How what answers a question is found: each entry that is seen joins a list of URLs with their latest deadlines, which is cut to its room.
use Rattle.std.specs.Prelude.{◌≡◌, ℕ, ◌+◌, ◌-◌, ◌<◌, ◌≤◌, ◌==◌, ◌⊎◌, Bool, true, false, not, ◌&&◌, ◌||◌, nat_le, nat_lt, min, if◌then◌else◌, List, [], ◌∷◌, drop, get_or, length, map, filter, Contains, vec_items, Option, Some, None, IfSome, IsTrue, MatchOption}
use Rattle.access_rules.specs.Deciding.{SiteRules, deed, is_hidden, is_hidden_by}
use Rattle.access_rules.specs.declared.rule.Action.TheVariants.{See}
use Rattle.attr_list.specs.Elements.{Element}
use Rattle.attr_list.specs.Maps.{elements_in, kept_attributes}
use Rattle.slp_tags.specs.Tags.{Part, selects}
use Rattle.registry_core.specs.Entries.{Entries, outlives, pair_of, IsListing, Skips}
use Rattle.registry_core.specs.declared.entry.Entry.{Entry}
use Rattle.slp_messages.specs.declared.message.UrlEntry.{UrlEntry}
use Rattle.directory_questions.specs.Items.{is_under, is_wanted}
use Rattle.directory_questions.specs.Sights.{is_left_in, is_open_in, is_shown, seen_entry}
use Rattle.directory_questions.specs.declared.query.Authority.{Authority}
use Rattle.directory_questions.specs.declared.query.ServiceQuery.{ServiceQuery}
use Rattle.directory_questions.specs.declared.query.Target.{Target}
use Rattle.directory_questions.specs.declared.query.Target.TheVariants.{Kind, Place}
use Rattle.directory_state.specs.Deadlines.{UrlDeadline, with_deadline, total_cost, urls_of}
use Rattle.std.specs.List.{AllByRecursion, list_any}
use Rattle.std.specs.Borrow.{Bor}
use Rattle.std.specs.Option.{option_map, option_map_or}
use Rattle.std.specs.Ordering.{is_le}
use Rattle.std.specs.declared.cmp.Ordering.TheVariants.{Less}
use Rattle.slp_text.specs.Words.{bytes_cmp, bytes_eq, texts_eq, IsAscending}
use Rattle.directory_state.specs.declared.search.Shortlist.{Shortlist}
use Rattle.directory_state.specs.declared.search.Room.{Room}
use Rattle.directory_state.specs.declared.search.Search.{Search}
use Rattle.directory_state.specs.declared.search.Spoken.{Spoken}
use Rattle.directory_state.specs.declared.shown.Sight.{Sight}
use Rattle.directory_state.specs.TypeRooms.{IsMore}
use Rattle.directory_state.specs.declared.viewer.KindEntries.{KindEntries}
use Rattle.directory_state.specs.declared.viewer.Look.{Look}
use Rattle.directory_state.specs.declared.viewer.Seen.{Seen}
use Rattle.directory_state.specs.declared.viewer.SeenEntries.{SeenEntries}
use Rattle.directory_state.specs.declared.asked.Viewer.{Viewer}
use Rattle.directory_state.specs.declared.search.Spoken.TheVariants.{Nothing, Others, Asked}

-- ---- what is seen

-- entries are found one by one
abbrev pub deadlines_with : List Entry → List UrlDeadline → List UrlDeadline
deadlines_with [] ps = ps
deadlines_with (e ∷ es) ps = deadlines_with es (with_deadline e.url e.deadline ps)

-- the entry is open in one of the scopes
abbrev pub is_allowed : SiteRules → ℕ → List (List ℕ) → Entry → Bool
is_allowed rules asker scopes e = list_any (is_open_in rules asker e) scopes

-- it lives on too
abbrev pub is_open : SiteRules → ℕ → ℕ → List (List ℕ) → Entry → Bool
is_open rules now asker scopes e = outlives now e && is_allowed rules asker scopes e

abbrev pub is_seen : Viewer → Entry → Bool
is_seen v = is_open v.rules.now v.moment v.asker v.asked

-- the scopes in which it is open, of those that are asked for from a place on
abbrev pub open_scopes : Viewer → Entry → ℕ → List (List ℕ)
open_scopes v e from = filter (is_open_in v.rules.now v.asker e) (drop from v.asked)

-- it is open in a scope, and a tag of it is left there
abbrev pub shows_in : Viewer → Entry → List ℕ → List ℕ → Bool
shows_in v e tag s = is_open_in v.rules.now v.asker e s && is_left_in v.rules.now v.asker e tag s

-- it is open in the scope at this place of those that are asked for, and in none before it
pub record IsFirst (v : Viewer) (e : Entry) (place : ℕ) : Type 0 where
  pub within : place < length v.asked
  pub first : open_scopes v e 0 ≡ get_or v.asked place [] ∷ open_scopes v e (place + 1)

-- in which of those that are asked for it is open first: in none, or in the scope at this place
abbrev pub IsFirstOpen : Viewer → Entry → Option ℕ → Type 0
IsFirstOpen v e first = MatchOption first (open_scopes v e 0 ≡ []) (IsFirst v e)

-- a look says so of its entry
abbrev pub IsLook : Viewer → Look → Type 0
IsLook v l = IsFirstOpen v l.entry.now l.first

-- two entries have the same type and scopes, and the same registrant, or two others than who asks: the rules say the same of both
abbrev pub are_alike_to : ℕ → Entry → Entry → Bool
are_alike_to asker e f = (e.owner == f.owner || (not (asker == e.owner) && not (asker == f.owner))) && bytes_eq e.kind f.kind && texts_eq e.scopes f.scopes

-- what is left of a list without some at its front that are not seen
abbrev pub PassesUnseen : Viewer → List Entry → List Entry → Type 0
PassesUnseen v = Skips (λ e. is_seen v e ≡ false)

-- where the entry that is given before a number is open first, where that is known
abbrev pub IsOpenBefore : Viewer → (ℕ → List Entry) → ℕ → Option ℕ → Type 0
IsOpenBefore v rest from known = IfSome known (λ first. (e : Entry) × (rest (from - 1) ≡ e ∷ rest from) × IsFirst v e first)

-- it is seen, and open first in the scope at this place
abbrev pub IsSeenFrom : Viewer → Entry → ℕ → Type 0
IsSeenFrom v e place = IsTrue (is_seen v e) × IsFirst v e place

-- it says in which scope an entry is open first, and what is hidden there
pub record IsSight (v : Viewer) (e : Entry) (s : Sight) : Type 0 where
  pub first : IsFirst v e s.first
  pub hidden : (tag : List ℕ) → is_hidden_by s.tables (deed v.asker See e.kind e.owner) (get_or v.asked s.first []) tag ≡ is_hidden v.rules.now (deed v.asker See e.kind e.owner) (get_or v.asked s.first []) tag

-- no tag of the entry is hidden
abbrev pub ShowsAll : Viewer → Entry → Type 0
ShowsAll v e = (tag : List ℕ) → is_shown v.rules.now v.asker v.asked e tag ≡ true

-- the entry with what is shown of it
abbrev pub seen_of : Viewer → Entry → Entry
seen_of v = seen_entry v.rules.now v.asker v.asked

-- the elements of what is shown of its attributes, and is selected
abbrev pub shown_elements : Viewer → List Part → Entry → List Element
shown_elements v tags e = elements_in (kept_attributes (seen_of v e).attrs (selects tags))

-- it is seen, and asked for by what is shown of it
abbrev pub is_found : Search → Entry → Bool
is_found s e = is_seen s.viewer e && is_wanted s.query.now (seen_of s.viewer e)

-- what was seen: nothing, or something, in the language that is asked for or in others alone
abbrev pub spoken_of : ServiceQuery → List Entry → Spoken
spoken_of query [] = Nothing
spoken_of query (e ∷ es) = if bytes_eq e.language query.language then Asked else (elim (spoken_of query es) [ Nothing ↦ Others | Others ↦ Others | Asked ↦ Asked ])

-- of what was seen first, and of what was seen then
abbrev pub joined : Spoken → Spoken → Spoken
joined Nothing after = after
joined Others after = elim after [ Nothing ↦ Others | Others ↦ Others | Asked ↦ Asked ]
joined Asked after = Asked

-- what is answered of a URL and its latest deadline
abbrev pub item_at : ℕ → UrlDeadline → UrlEntry
item_at now p = record { lifetime = min (p.1 - now) 65535; url = p.0 }

-- ---- what is kept of it

-- the bytes that an item takes: they are counted where there is a bound
abbrev pub cost_in : Option Room → List ℕ → ℕ
cost_in None url = 0
cost_in (Some room) url = room.each + length url

-- the bytes that there are
abbrev pub bytes_in : Option Room → ℕ
bytes_in None = 0
bytes_in (Some room) = room.bytes

-- as many from the front as there is room for, and one more, where there is one
abbrev pub cut : (List ℕ → ℕ) → ℕ → List UrlDeadline → List UrlDeadline
cut cost left [] = []
cut cost left (p ∷ ps) = if nat_le (cost p.0) left then p ∷ cut cost (left - cost p.0) ps else p ∷ []

abbrev pub cut_in : Option Room → List UrlDeadline → List UrlDeadline
cut_in room = cut (cost_in room) (bytes_in room)

-- what is kept is counted
abbrev pub IsCounted : Shortlist → Type 0
IsCounted k = k.used ≡ total_cost (cost_in k.room) k.latest

-- what an item takes beside its URL is little, so that the bytes of one item can be counted
abbrev pub IsSmall : Option Room → Type 0
IsSmall room = IfSome room (λ r. r.each ≤ 65535)

-- what is kept is counted, and already cut
pub record IsKept (k : Shortlist) : Type 0 where
  pub counted : IsCounted k
  pub small : IsSmall k.room
  pub is_cut : cut_in k.room k.latest ≡ k.latest

-- there is no room for all that is kept, and none of it comes after a URL
pub record IsBound (cost : List ℕ → ℕ) (left : ℕ) (url : List ℕ) (ps : List UrlDeadline) : Type 0 where
  pub over : left < total_cost cost ps
  pub all : AllByRecursion (λ held. is_le (bytes_cmp held url) ≡ true) (urls_of ps)

-- what is kept, with what is found of these entries
abbrev pub shortlist_with : Shortlist → Search → List Entry → List UrlDeadline
shortlist_with k s es = cut_in k.room (deadlines_with (filter (is_found s) es) k.latest)

-- ---- what is made of the entries that are seen

-- entries that are lent
abbrev pub entries_lent : List (Bor Entry) → List Entry
entries_lent es = map (λ p. p.now) es

abbrev pub IsIn : List Entry → Entry → Type 0
IsIn es e = Contains es e

abbrev pub IsInAnd : List Entry → (Entry → Bool) → Entry → Type 0
IsInAnd es p e = Contains es e × IsTrue (p e)

-- the entries alone
abbrev pub entries_in : List Seen → List Entry
entries_in ss = map (λ s. s.entry.now) ss

-- each of them is seen, and open first where it is said
abbrev pub AreSeenBy : Viewer → List Seen → Type 0
AreSeenBy v ss = (s : Seen) → Contains ss s → IsSeenFrom v s.entry.now s.first

-- each of the first is one of the others
abbrev pub AreWithin : List Seen → List Seen → Type 0
AreWithin kept found = (s : Seen) → Contains kept s → Contains found s

-- they are those of a map that pass a test and are seen
pub record AreFoundIn (p : Entry → Bool) (v : Viewer) (held : Entries) (es : List Entry) : Type 0 where
  pub all : List Entry
  pub listing : IsListing p held all
  pub found : es ≡ filter (is_seen v) all

-- what is still given of what a question is about, by what is given of a type and of a URL
abbrev pub rest_about : (Option (List ℕ) → ℕ → List Entry) → (List ℕ → ℕ → List Entry) → Target → ℕ → List Entry
rest_about of_kind of_url (Kind kind) from = of_kind (Some kind) from
rest_about of_kind of_url (Place url) from = of_url url from

-- what is seen of entries that are found
abbrev pub entries_seen : SeenEntries → List Entry
entries_seen f = map (seen_of f.viewer) (entries_in (vec_items f.entries))

-- no two of them are of one pair
abbrev pub HasOneOfEachPair : List Entry → Type 0
HasOneOfEachPair es = (e f : Entry) → Contains es e → Contains es f → pair_of e ≡ pair_of f → e ≡ f

-- these entries in the byte order of a text of theirs, one of each text
pub record IsArranged (text : Entry → List ℕ) (es arranged : List Entry) : Type 0 where
  pub ordered : IsAscending (map text arranged)
  pub within : (e : Entry) → Contains arranged e → Contains es e
  pub covers : (e : Entry) → Contains es e → Contains (map text arranged) (text e)

-- they stand in the key order of their types, one of each
abbrev pub AreByKind : List Entry → Type 0
AreByKind es = IsAscending (map (λ e. e.kind) es)

-- some of these entries, one of each type among them
pub record HasEachKind (es some : List Entry) : Type 0 where
  pub within : (e : Entry) → Contains some e → Contains es e
  pub kinds : (e : Entry) → Contains es e → (f : Entry) × Contains some f × (f.kind ≡ e.kind)

-- it is seen, and its type has the naming authority
abbrev pub is_listed : Viewer → Authority → Entry → Bool
is_listed v a e = is_under a e && is_seen v e

-- some of these entries, one of each type among them, but for types that come after all of theirs
pub record HasFirstKinds (es some : List Entry) : Type 0 where
  pub within : (e : Entry) → Contains some e → Contains es e
  pub kinds : (e : Entry) → Contains es e → ((f : Entry) × Contains some f × (f.kind ≡ e.kind)) ⊎ AllByRecursion (λ f. bytes_cmp f.kind e.kind ≡ Less) some

-- what is left of a room
abbrev pub left_after : Option ℕ → ℕ → Option ℕ
left_after left n = option_map (λ l. l - n) left

-- there is less left than so many bytes
abbrev pub is_over : Option ℕ → ℕ → Bool
is_over left n = option_map_or (λ l. nat_lt l n) left false

-- some of these entries, one of each type; or the first types, in their order, for which there is too little room
abbrev pub AreKindsFor : Option ℕ → List Entry → KindEntries → Type 0
AreKindsFor room es k =
    let some = entries_lent (vec_items k.entries) in
    HasEachKind es some ⊎ (IsTrue k.are_ordered × IsMore room (map (λ e. e.kind) some) × HasFirstKinds es some)
