use Rattle.std.proofs.Common.{chars, length}
use Rattle.std.specs.Prelude.{IsUtf8}
use Rattle.search_filter.proofs.ParsedFilters.{IsSoFar}
use Rattle.search_filter.proofs.parsing.+filter.Given as goal

-- the filters so far, and what is left, are what was given
abbrev pub invariant-read_connected-loop-inside : goal.invariant-read_connected-loop-inside
invariant-read_connected-loop-inside l = IsSoFar l.fn.connective (chars l.fn.text) l.fn.level l.filters.items (chars l.rest) × IsUtf8 l.rest

-- each call is given less, and so is each turn
abbrev pub decreases-read_connected : goal.decreases-read_connected
decreases-read_connected l = length (chars l.text.now)

abbrev pub decreases-read_filter : goal.decreases-read_filter
decreases-read_filter l = length (chars l.text.now)

abbrev pub decreases-read_connected-loop-inside : goal.decreases-read_connected-loop-inside
decreases-read_connected-loop-inside l = length (chars l.rest)
