-- Which entries a history leaves.
use Rattle.std.specs.Prelude.{◌≡◌, ℕ, ◌+◌, ◌<◌, Bool, true, false, ◌&&◌, ◌↔◌, if◌then◌else◌, List, [], ◌∷◌, Option, Some, None, is_none, is_some, unwrap_or}
use Rattle.std.specs.List.{list_any}
use Rattle.std.specs.FinMap as fin
use Rattle.access_rules.specs.Deciding.{SiteRules}
use Rattle.attr_list.specs.declared.held.Held.{Held}
use Rattle.slp_tags.specs.Tags.{selects}
use Rattle.slp_text.specs.Words.{bytes_eq, texts_eq}
use Rattle.registry_core.specs.declared.entry.Entry.{Entry}
use Rattle.registry_core.specs.Entries.{Pair, Entries, pair_of, pair_eq}
use Rattle.directory_judge.specs.History.{Putting, Put, Set, Remove, Withdraw, Sweep, Reload, Event, History, now, last_that}

-- what is there, where a condition holds
abbrev pub if_true : {A : Type 0} → Bool → Option A → Option A
if_true true o = o
if_true false o = None

-- ---- what one event says

-- the registration of a pair that it is
abbrev pub put_of : Pair → Event → Option Putting
put_of q c = elim c.act [
  | Put p ↦ if_true (pair_eq (p.url, p.language) q) (Some p)
  | Set s ↦ None
  | Remove r ↦ None
  | Withdraw w ↦ None
  | Sweep ↦ None
  | Reload rs ↦ None
]

-- it withdraws what p registered: this URL in just these scopes
abbrev pub withdraws : Putting → Event → Bool
withdraws p c = elim c.act [
  | Withdraw w ↦ bytes_eq p.url w.url && texts_eq p.scopes w.scopes
  | Put o ↦ false
  | Set s ↦ false
  | Remove r ↦ false
  | Sweep ↦ false
  | Reload rs ↦ false
]

-- the deadline of a pair that it sets
abbrev pub deadline_of : Pair → Event → Option ℕ
deadline_of q c = elim c.act [
  | Put p ↦ if_true (pair_eq (p.url, p.language) q) (Some (c.moment + p.lifetime))
  | Set s ↦ if_true (pair_eq (s.url, s.language) q) (Some (c.moment + s.lifetime))
  | Remove r ↦ None
  | Withdraw w ↦ None
  | Sweep ↦ None
  | Reload rs ↦ None
]

-- What it says of a pair's tag: Some of what it gives it, where None is absence. A registration speaks of each tag.
abbrev pub held_of : Pair → List ℕ → Event → Option (Option Held)
held_of q tag c = elim c.act [
  | Put p ↦ if_true (pair_eq (p.url, p.language) q) (Some (fin.get p.attributes tag))
  | Set s ↦ if_true (pair_eq (s.url, s.language) q && is_some (fin.get s.attributes tag)) (Some (fin.get s.attributes tag))
  | Remove r ↦ if_true (pair_eq (r.url, r.language) q && selects r.tags tag) (Some None)
  | Withdraw w ↦ None
  | Sweep ↦ None
  | Reload rs ↦ None
]

-- the rules that an event brings, if it is a reload
abbrev pub rules_of : Event → Option (SiteRules)
rules_of c = elim c.act [
  | Reload rs ↦ Some rs
  | Put p ↦ None
  | Set s ↦ None
  | Remove r ↦ None
  | Withdraw w ↦ None
  | Sweep ↦ None
]

-- ---- what a history says

-- the rules of the last reload, else the opening ones
abbrev pub rules : SiteRules → History → SiteRules
rules opening h = unwrap_or (last_that rules_of h) opening

-- what came after the last registration of the pair
abbrev pub since_put : Pair → History → History
since_put q [] = []
since_put q (c ∷ h) = if is_none (put_of q c) then c ∷ since_put q h else []

-- the putting, if there is one and nothing of a history withdraws it
abbrev pub unless_withdrawn : History → Option Putting → Option Putting
unless_withdrawn h None = None
unless_withdrawn h (Some p) = if list_any (withdraws p) h then None else Some p

-- The founding of a pair: its last registration, where nothing withdrew it since.
abbrev pub founding : Pair → History → Option Putting
founding q h = unless_withdrawn (since_put q h) (last_that (put_of q) h)

-- what a tag of the pair holds: what the last event says that speaks of it
abbrev pub tag_at : Pair → List ℕ → History → Option (Option Held)
tag_at q tag h = last_that (held_of q tag) h

-- An entry stands: its owner, type and scopes are its founding's, each tag holds what the last event says that speaks of it,
-- and the deadline is what the last event says that sets one.
pub record Stands (h : History) (e : Entry) : Type 0 where
  pub by : Putting
  pub founded : founding (pair_of e) h ≡ Some by
  pub owner : e.owner ≡ by.asker
  pub kind : e.kind ≡ by.kind
  pub scopes : e.scopes ≡ by.scopes
  pub attributes : (tag : List ℕ) → tag_at (pair_of e) tag h ≡ Some (fin.get e.attrs tag)
  pub deadline : last_that (deadline_of (pair_of e)) h ≡ Some e.deadline

-- it stands, and its deadline is still to come
pub record Live (h : History) (m : ℕ) (e : Entry) : Type 0 where
  pub stands : Stands h e
  pub lasts : now h m < e.deadline

-- at each pair the map has the live entry of that pair, if there is one
abbrev pub AreLive : History → ℕ → Entries → Type 0
AreLive h m map = (q : Pair) (e : Entry) → (fin.get map q ≡ Some e) ↔ ((pair_of e ≡ q) × Live h m e)
