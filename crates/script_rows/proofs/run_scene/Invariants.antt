use Rattle.std.specs.Arc.{arc_value}
use Rattle.script_rows.proofs.run_scene.Given as goal

-- the opening that was just made
abbrev pub ghosts-run : goal.ghosts-run
ghosts-run g a = record { book = a.opened.seen.book; opening = record { rules = arc_value a.begun.rules; site = a.begun.site } }
