use Rattle.std.proofs.Common.{take}
use Rattle.std.specs.Prelude.{flat_map}
use Rattle.std.specs.Io.KnownBytes.{Appends}
use Rattle.std.specs.List.{enumerate_from}
use Rattle.site_check.specs.RuleWarnings.{hide_lines}
use Rattle.site_check.proofs.warnings.warn_of_each_hide.Given as goal

abbrev pub invariant-loop-i : goal.invariant-loop-i
invariant-loop-i g l =
    Appends (g.W.Write.contents l.initial.writer) (g.W.Write.contents l.writer) (flat_map (hide_lines l.file l.site.rules.now l.site.scopes.now) (take l.i (enumerate_from 0 l.hides)))
