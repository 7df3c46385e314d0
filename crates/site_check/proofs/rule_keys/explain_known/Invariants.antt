use Rattle.std.proofs.Common.{take}
use Rattle.std.specs.Prelude.{flat_map}
use Rattle.std.specs.Io.KnownBytes.{Appends}
use Rattle.toml.specs.View.{table_view}
use Rattle.site_check.specs.Lines.{place_in}
use Rattle.site_check.specs.RuleKeys.{key_line}
use Rattle.site_check.proofs.rule_keys.explain_known.Given as goal

abbrev pub invariant-loop-key : goal.invariant-loop-key
invariant-loop-key g l = Appends (g.W.Write.contents l.initial.writer) (g.W.Write.contents l.writer) (flat_map (key_line (place_in l.place) (table_view l.table)) (take l.key-index l.known))
