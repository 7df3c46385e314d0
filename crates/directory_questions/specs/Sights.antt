-- What an asker sees of an entry.
use Rattle.std.specs.Prelude.{ℕ, Bool, not, ◌&&◌, List, filter}
use Rattle.std.specs.List.{list_any}
use Rattle.attr_list.specs.Lists.{Attributes}
use Rattle.attr_list.specs.Maps.{kept_attributes}
use Rattle.access_rules.specs.Deciding.{SiteRules, deciding, deed, is_hidden}
use Rattle.access_rules.specs.declared.rule.Action.TheVariants.{See}
use Rattle.registry_core.specs.Entries.{has_scope}
use Rattle.registry_core.specs.declared.entry.Entry.{Entry}
use Rattle.slp_text.specs.Words.{bytes_eq}
use Rattle.directory_judge.specs.Sites.{Site}

-- the scopes of the site that are asked for
abbrev pub asked_scopes : Site → List (List ℕ) → List (List ℕ)
asked_scopes site scopes = filter (λ s. list_any (λ k. bytes_eq k s) scopes) site.scopes

-- the entry stands in a scope, in which the asker may see what its owner registered of its type
abbrev pub is_open_in : SiteRules → ℕ → Entry → List ℕ → Bool
is_open_in rules asker e s = has_scope s e && (deciding rules (deed asker See e.kind e.owner) s).allow

-- no hide table that fits a scope takes a tag of the entry away there
abbrev pub is_left_in : SiteRules → ℕ → Entry → List ℕ → List ℕ → Bool
is_left_in rules asker e tag s = not (is_hidden rules (deed asker See e.kind e.owner) s tag)

-- a tag of the entry is shown: in one of these scopes the entry is open, and the tag is left
abbrev pub is_shown : SiteRules → ℕ → List (List ℕ) → Entry → List ℕ → Bool
is_shown rules asker scopes e tag = list_any (is_left_in rules asker e tag) (filter (is_open_in rules asker e) scopes)

-- the attributes of the entry whose tags are shown
abbrev pub seen_attributes : SiteRules → ℕ → List (List ℕ) → Entry → Attributes
seen_attributes rules asker scopes e = kept_attributes e.attrs (is_shown rules asker scopes e)

-- the entry with these attributes alone
abbrev pub seen_entry : SiteRules → ℕ → List (List ℕ) → Entry → Entry
seen_entry rules asker scopes e = record e { attrs = seen_attributes rules asker scopes e }
