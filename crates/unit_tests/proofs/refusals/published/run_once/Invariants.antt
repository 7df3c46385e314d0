use Rattle.std.specs.Arc.{arc_value}
use Rattle.unit_tests.proofs.refusals.published.run_once.Given as goal

-- the opening that was just made
abbrev pub ghosts-run : goal.ghosts-run
ghosts-run g a = record { book = a.opened.seen.book; opening = record { rules = arc_value a.begun.rules; site = a.begun.site } }
