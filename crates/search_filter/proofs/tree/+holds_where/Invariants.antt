use Rattle.std.proofs.Common.{◌≡◌, ℕ, Bool, List, drop}
use Rattle.attr_list.specs.Maps.{kept_attributes}
use Rattle.attr_list.specs.Tests.{AcceptsAs}
use Rattle.search_filter.specs.Looks.{IsLast}
use Rattle.search_filter.specs.Trees.{each_holds_as, filters_in}
use Rattle.search_filter.proofs.tree.+holds_where.Given as goal

-- those that are left decide, and the last look was at the attributes
abbrev pub invariant-each_holds_where-loop-filter : goal.invariant-each_holds_where-loop-filter
invariant-each_holds_where-loop-filter g l =
    ((p : List ℕ → Bool) → AcceptsAs g.F.Fn l.fn.accepts p
    → each_holds_as l.fn.turn.positive l.fn.turn.all (kept_attributes l.fn.attributes p) (filters_in (drop l.filter-index l.filter-items)) ≡ each_holds_as l.fn.turn.positive l.fn.turn.all (kept_attributes l.fn.attributes p) (filters_in l.fn.filters.items))
    × IsLast g.F.Fn l.fn.accepts l.fn.attributes l.last
