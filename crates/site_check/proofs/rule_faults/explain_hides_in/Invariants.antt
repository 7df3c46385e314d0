use Rattle.std.proofs.Common.{map, take}
use Rattle.std.specs.Prelude.{flat_map}
use Rattle.std.specs.Io.KnownBytes.{Appends}
use Rattle.std.specs.List.{enumerate_from}
use Rattle.toml.specs.View.{view}
use Rattle.site_check.specs.RuleFaults.{hide_lines}
use Rattle.site_check.proofs.rule_faults.explain_hides_in.Given as goal

abbrev pub invariant-loop-i : goal.invariant-loop-i
invariant-loop-i g l = Appends (g.W.Write.contents l.initial.writer) (g.W.Write.contents l.writer) (flat_map (hide_lines l.file.path.now (map view l.file.rules.now) (map view l.hides)) (take l.i (enumerate_from 0 (map view l.hides))))
