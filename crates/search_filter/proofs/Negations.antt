-- Negations of "and" and of "or".
use Rattle.std.proofs.Common.{◌≡◌, refl, ap}
use Rattle.attr_list.specs.Lists.{Attributes}
use Rattle.search_filter.specs.Filters.{Filters, none, more, all, any, negated, next, negated_each, holds, every_holds, some_holds, settled_each, turned, turned_each}

-- filters that are negated one by one, each with its negation at the items
negated-turned : (fs : Filters) → settled_each (negated_each fs) ≡ turned_each fs
negated-turned none = refl
negated-turned (more f fs) = ap (next (turned f)) (negated-turned fs)

-- the negation of "and" is "or" of the negations
pub not_all : (fs : Filters) (a : Attributes) → holds (any (negated_each fs)) a ≡ holds (negated (all fs)) a
not_all fs a = ap (some_holds a) (negated-turned fs)

-- the negation of "or" is "and" of the negations
pub not_any : (fs : Filters) (a : Attributes) → holds (all (negated_each fs)) a ≡ holds (negated (any fs)) a
not_any fs a = ap (every_holds a) (negated-turned fs)
