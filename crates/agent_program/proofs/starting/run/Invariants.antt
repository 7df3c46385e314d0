use Rattle.std.specs.Arc.{arc_value}
use Rattle.agent_program.proofs.starting.run.Given as goal

abbrev pub ghosts-serve_opened : goal.ghosts-serve_opened
ghosts-serve_opened g a = record {
  book = a.opened.seen.book;
  opening = record { rules = arc_value a.begun.rules; site = a.begun.site };
}
