use Rattle.std.specs.Prelude.{flat_map}
use Rattle.std.specs.Io.KnownBytes.{Appends}
use Rattle.site_check.specs.ConfigFaults.{unknown_line}
use Rattle.site_check.proofs.TableKeys.{texts}
use Rattle.site_check.proofs.config_faults.explain_others.Given as goal

abbrev pub invariant-loop-key : goal.invariant-loop-key
invariant-loop-key g l = Appends (g.W.Write.contents l.initial.writer) (g.W.Write.contents l.writer) (flat_map (unknown_line l.file) (texts l.yielded))
