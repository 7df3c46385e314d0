use Rattle.std.specs.Prelude.{flat_map}
use Rattle.std.specs.Io.KnownBytes.{Appends}
use Rattle.site_check.specs.RuleFaults.{file_key_line}
use Rattle.site_check.proofs.TableKeys.{texts}
use Rattle.site_check.proofs.rule_faults.explain_file_keys.Given as goal

abbrev pub invariant-loop-key : goal.invariant-loop-key
invariant-loop-key g l = Appends (g.W.Write.contents l.initial.writer) (g.W.Write.contents l.writer) (flat_map (file_key_line l.file l.version) (texts l.yielded))
