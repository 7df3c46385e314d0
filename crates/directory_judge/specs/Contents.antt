-- What a change holds.
use Rattle.std.specs.Prelude.{ℕ, ◌+◌, Option, Some, None}
use Rattle.std.specs.Arc.{arc_value}
use Rattle.std.specs.FinMap as fin
use Rattle.access_rules.specs.Deciding.{SiteRules}
use Rattle.attr_list.specs.Maps.{attributes_without, updated_attributes}
use Rattle.registry_core.specs.declared.entry.Entry.{Entry}
use Rattle.registry_core.specs.Entries.{Entries}
use Rattle.directory_judge.specs.History.{Putting, Setting, Removing, Withdrawing, Put, Set, Remove, Withdraw, Sweep, Reload, Event}
use Rattle.directory_judge.specs.declared.change.Change.{Change}
use Rattle.directory_judge.specs.declared.change.Change.TheVariants as change

-- what a change holds, wherever it lies in memory
pub data Content : Type 0 where
  Stores : ℕ → Entry → Content
  Edits : ℕ → Entry → Content
  Withdraws : ℕ → Withdrawing → Content
  Sweeps : ℕ → Content
  Reloads : ℕ → SiteRules → Content

abbrev pub content : Change → Content
content (change.Put placed) = Stores placed.moment (arc_value placed.entry)
content (change.Edit placed) = Edits placed.moment (arc_value placed.entry)
content (change.Withdraw moment w) = Withdraws moment (record { url = (arc_value w).url; scopes = (arc_value w).scopes })
content (change.Sweep moment) = Sweeps moment
content (change.Reload moment rules) = Reloads moment (arc_value rules)

-- the moment at which it acts
abbrev pub moment_in : Content → ℕ
moment_in (Stores moment e) = moment
moment_in (Edits moment e) = moment
moment_in (Withdraws moment w) = moment
moment_in (Sweeps moment) = moment
moment_in (Reloads moment rules) = moment

-- the entry that a registration founds at a moment: its owner is who asked for it
abbrev pub entry_of : ℕ → Putting → Entry
entry_of moment p = record { url = p.url; language = p.language; kind = p.kind; scopes = p.scopes; attrs = p.attributes; deadline = moment + p.lifetime; owner = p.asker }

-- an entry that an update sets at a moment: the tags that it names hold what it says, the others what they held
abbrev pub entry_set : ℕ → Setting → Entry → Entry
entry_set moment s e = record e { attrs = updated_attributes e.attrs s.attributes; deadline = moment + s.lifetime }

-- an entry without the tags that are taken away
abbrev pub entry_without : Removing → Entry → Entry
entry_without r e = record e { attrs = attributes_without e.attrs r.tags }

-- an edit of what is held, if something is
abbrev pub edit_of : ℕ → Option Entry → (Entry → Entry) → Content
edit_of moment None f = Sweeps moment
edit_of moment (Some e) f = Edits moment (f e)

-- what the change holds that makes an event, where these are the live entries
abbrev pub content_on : Entries → Event → Content
content_on live c = elim c.act [
  | Put p ↦ Stores c.moment (entry_of c.moment p)
  | Set s ↦ edit_of c.moment (fin.get live (s.url, s.language)) (entry_set c.moment s)
  | Remove r ↦ edit_of c.moment (fin.get live (r.url, r.language)) (entry_without r)
  | Withdraw w ↦ Withdraws c.moment w
  | Sweep ↦ Sweeps c.moment
  | Reload rs ↦ Reloads c.moment rs
]
