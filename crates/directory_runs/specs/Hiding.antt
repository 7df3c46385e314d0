-- What hide tables keep from everyone but who registered it.
use Rattle.std.specs.Prelude.{◌≡◌, ℕ, true, not, List, Contains, None}
use Rattle.std.specs.List.{list_any}
use Rattle.slp_tags.specs.Tags.{selects}
use Rattle.slp_text.specs.Words.{bytes_eq}
use Rattle.attr_list.specs.Maps.{kept_attributes}
use Rattle.access_rules.specs.Deciding.{SiteRules, hides_in}
use Rattle.addresses.specs.Addresses.{has_address}
use Rattle.access_rules.specs.declared.hide.Hide.{Hide}
use Rattle.registry_core.specs.declared.entry.Entry.{Entry}

-- the table hides from every address, of every type and in every scope, and spares owners at most
pub record IsForOthers (h : Hide) : Type 0 where
  pub addresses : (asker : ℕ) → list_any (λ p. has_address p asker) h.from ≡ true
  pub types : h.kind ≡ None
  pub scopes : h.scopes ≡ None

-- some such table of these rules selects the tag
pub record IsKeptBack (rules : SiteRules) (tag : List ℕ) : Type 0 where
  pub table : Hide
  pub held : Contains (hides_in rules) table
  pub for_others : IsForOthers table
  pub selected : selects table.tags tag ≡ true

-- the entry as it would be without a tag
abbrev pub without_tag : List ℕ → Entry → Entry
without_tag tag e = record e { attrs = kept_attributes e.attrs (λ t. not (bytes_eq t tag)) }
