use Rattle.std.proofs.Common.{map, take}
use Rattle.std.specs.Prelude.{flat_map}
use Rattle.std.specs.Io.KnownBytes.{Appends}
use Rattle.std.specs.List.{enumerate_from}
use Rattle.toml.specs.View.{view}
use Rattle.site_check.specs.Elements.{socket_line}
use Rattle.site_check.proofs.elements.explain_listen.Given as goal

abbrev pub invariant-loop-i : goal.invariant-loop-i
invariant-loop-i g l = Appends (g.W.Write.contents l.initial.writer) (g.W.Write.contents l.writer) (flat_map (socket_line l.file (map view l.values)) (take l.i (enumerate_from 0 (map view l.values))))
