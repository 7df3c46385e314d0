-- Search filters, and on which attributes they hold (RFC 2608, section 8.1; RFC 2254).
use Rattle.std.specs.Prelude.{ℕ, suc, max, Bool, true, false, ◌&&◌, ◌||◌}
use Rattle.attr_list.specs.Lists.{Attributes}
use Rattle.search_filter.specs.Conditions.{item_holds, negated_item_holds}
use Rattle.search_filter.specs.declared.item.Item.{Item}

-- a filter: all or any of some, the negation of one, or an item (RFC 2254)
mutual
  pub data Filter : Type 0 where
    all : Filters → Filter
    any : Filters → Filter
    negated : Filter → Filter
    item : Item → Filter

  pub data Filters : Type 0 where
    none : Filters
    more : Filter → Filters → Filters

-- ---- negations stand at the items

-- a filter without a negation but of items
mutual
  pub data Settled : Type 0 where
    every : Settleds → Settled
    some : Settleds → Settled
    is : Item → Settled
    is_not : Item → Settled

  pub data Settleds : Type 0 where
    nothing : Settleds
    next : Settled → Settleds → Settleds

-- a filter, and its negation, with negations at the items: under one "and" and "or" change places, and two cancel
abbrev mutual
  pub settled : Filter → Settled
  settled (all fs) = every (settled_each fs)
  settled (any fs) = some (settled_each fs)
  settled (negated f) = turned f
  settled (item i) = is i

  pub turned : Filter → Settled
  turned (all fs) = some (turned_each fs)
  turned (any fs) = every (turned_each fs)
  turned (negated f) = settled f
  turned (item i) = is_not i

  pub settled_each : Filters → Settleds
  settled_each none = nothing
  settled_each (more f fs) = next (settled f) (settled_each fs)

  pub turned_each : Filters → Settleds
  turned_each none = nothing
  turned_each (more f fs) = next (turned f) (turned_each fs)

-- ---- where they hold

-- it holds of attributes; `every` of none holds, `some` of none does not
abbrev mutual
  pub settled_holds : Attributes → Settled → Bool
  settled_holds a (every fs) = every_holds a fs
  settled_holds a (some fs) = some_holds a fs
  settled_holds a (is i) = item_holds i a
  settled_holds a (is_not i) = negated_item_holds i a

  pub every_holds : Attributes → Settleds → Bool
  every_holds a nothing = true
  every_holds a (next f fs) = settled_holds a f && every_holds a fs

  pub some_holds : Attributes → Settleds → Bool
  some_holds a nothing = false
  some_holds a (next f fs) = settled_holds a f || some_holds a fs

-- the filter holds on the attributes
abbrev pub holds : Filter → Attributes → Bool
holds f a = settled_holds a (settled f)

-- ---- how deep they are

-- the levels of a filter; one that is in no other has one at least
abbrev mutual
  pub depth : Filter → ℕ
  depth (all fs) = suc (greatest_depth fs)
  depth (any fs) = suc (greatest_depth fs)
  depth (negated f) = suc (depth f)
  depth (item i) = 1

  pub greatest_depth : Filters → ℕ
  greatest_depth none = 0
  greatest_depth (more f fs) = max (depth f) (greatest_depth fs)

-- the negations of filters
abbrev pub negated_each : Filters → Filters
negated_each none = none
negated_each (more f fs) = more (negated f) (negated_each fs)
