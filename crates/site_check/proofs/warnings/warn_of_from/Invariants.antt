use Rattle.std.proofs.Common.{take}
use Rattle.std.specs.Prelude.{flat_map}
use Rattle.std.specs.Io.KnownBytes.{Appends}
use Rattle.std.specs.List.{enumerate_from}
use Rattle.site_check.specs.Lines.{place_in}
use Rattle.site_check.specs.RuleWarnings.{from_line}
use Rattle.site_check.proofs.warnings.warn_of_from.Given as goal

abbrev pub invariant-loop-i : goal.invariant-loop-i
invariant-loop-i g l =
    Appends (g.W.Write.contents l.initial.writer) (g.W.Write.contents l.writer) (flat_map (from_line (place_in l.place)) (take l.i (enumerate_from 0 l.from)))
