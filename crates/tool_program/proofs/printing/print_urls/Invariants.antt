use Rattle.std.proofs.Common.{take}
use Rattle.std.specs.Prelude.{flat_map}
use Rattle.std.specs.Io.KnownBytes.{Appends}
use Rattle.tool_program.specs.Printing as spec
use Rattle.tool_program.proofs.printing.print_urls.Given as goal

abbrev pub invariant-loop-entry : goal.invariant-loop-entry
invariant-loop-entry g l = Appends (g.W.Write.contents l.initial.writer) (g.W.Write.contents l.writer) (flat_map spec.url_line (take l.entry-index l.entries))
