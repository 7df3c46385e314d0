-- What a table of entries is to contracts, and what it keeps.
use Rattle.std.specs.Prelude.{◌≡◌, ℕ, ◌≤◌, ◌<◌, not, get_or, Bool, true, false, if◌then◌else◌, ◌&&◌, List, length, drop, Option, Some, None, refl}
use Rattle.std.specs.Coded.{Coded, code_by, coded×, coded_ℕ, coded_list, coded_option}
use Rattle.service_url.specs.Types.{is_abstract}
use Rattle.registry_core.specs.declared.entry.Entry.{Entry}
use Rattle.registry_slots.specs.declared.orders.By.{By}
use Rattle.registry_slots.specs.declared.orders.By.TheVariants as by
use Rattle.registry_core.specs.Entries.{Entries, entry_code, entries_of_list, if_kept, is_kind, has_scope, is_within}
use Rattle.registry_slots.specs.Slots.{slot_at, somes, gathered, tests}
use Rattle.registry_slots.specs.Numbering.{AreNumbered}
use Rattle.registry_slots.specs.Orders.{IsOrder, front_of}
use Rattle.slot_list.specs.Blocks.{Numbers}
use Rattle.slp_text.specs.Words.{bytes_cmp}
use Rattle.std.specs.Ordering.{match_ordering}

-- the slots, and the orders in which they are walked
pub record Table : Type 0 where
  pub slots : List (Option Entry)
  pub places : List ℕ
  pub roots : List ℕ
  pub kinds : List ℕ

abbrev pub table_code : Coded Table
table_code = code_by (List (Option Entry) × (List ℕ × (List ℕ × List ℕ)))
    (coded× (coded_list (coded_option entry_code)) (coded× (coded_list coded_ℕ) (coded× (coded_list coded_ℕ) (coded_list coded_ℕ))))
    (λ t. (t.slots, (t.places, (t.roots, t.kinds))))
    (λ p. record { slots = p.0; places = p.1.0; roots = p.1.1.0; kinds = p.1.1.1 }) (λ _. refl)

pub record IsTable (slots : List (Option Entry)) (ps rs ks : Numbers) (numbers : List ℕ) : Type 0 where
  pub places : IsOrder by.Place slots ps.items
  pub roots : IsOrder by.Root slots rs.items
  pub kinds : IsOrder by.Kind slots ks.items
  pub numbered : AreNumbered slots numbers
  pub each : length numbers ≡ length slots
  pub places_room : length slots ≤ ps.room
  pub roots_room : length slots ≤ rs.room
  pub kinds_room : length slots ≤ ks.room
  pub room : length slots ≤ 65536

abbrev pub contents_of : Table → Entries
contents_of t = entries_of_list (somes t.slots)

abbrev pub order_of : By → Table → List ℕ
order_of by.Place t = t.places
order_of by.Root t = t.roots
order_of by.Kind t = t.kinds

-- the order in which what a type covers stands together
abbrev pub by_for : Option (List ℕ) → By
by_for None = by.Kind
by_for (Some kind) = if is_abstract kind then by.Root else by.Kind

-- the entries that pass, along the order from a number on
abbrev pub walked : By → Table → (Entry → Bool) → ℕ → List Entry
walked b t p from = gathered (λ x. if_kept p (slot_at t.slots x)) (drop from (order_of b t))

abbrev pub in_scope : Option (List ℕ) → Entry → Bool
in_scope None e = true
in_scope (Some scope) e = has_scope scope e

abbrev pub in_bound : Option (List ℕ) → Entry → Bool
in_bound None e = true
in_bound (Some bound) e = is_within bound e

-- what a walk is for: entries of a type, in a scope, whose URL does not come after a bound
abbrev pub is_wanted : Option (List ℕ) → Option (List ℕ) → Option (List ℕ) → Entry → Bool
is_wanted bound kind scope e = in_bound bound e && (is_kind kind e && in_scope scope e)

-- what comes after an entry in the order for the type is not wanted
abbrev pub is_past : By → Option (List ℕ) → Option (List ℕ) → Entry → Bool
is_past b None bound e = false
is_past b (Some kind) bound e = match_ordering (bytes_cmp (front_of b e) kind) false (not (in_bound bound e)) true

-- no slot passes between two places of an order
abbrev pub NoneIn : (Entry → Bool) → List (Option Entry) → List ℕ → ℕ → ℕ → Type 0
NoneIn p slots order a b = (j : ℕ) → a ≤ j → j < b → tests p (slot_at slots (get_or order j 0)) ≡ false
