use Rattle.std.proofs.Common.{take}
use Rattle.std.specs.Prelude.{flat_map}
use Rattle.std.specs.Io.KnownBytes.{Appends}
use Rattle.site_check.specs.Lines.{place_in}
use Rattle.site_check.specs.RuleWarnings.{scope_line}
use Rattle.site_check.proofs.warnings.warn_of_named.Given as goal

abbrev pub invariant-loop-i : goal.invariant-loop-i
invariant-loop-i g l =
    Appends (g.W.Write.contents l.initial.writer) (g.W.Write.contents l.writer) (flat_map (scope_line (place_in l.place) l.scopes) (take l.i l.named))
