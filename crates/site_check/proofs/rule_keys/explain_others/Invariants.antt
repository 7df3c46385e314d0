use Rattle.std.specs.Prelude.{flat_map}
use Rattle.std.specs.Io.KnownBytes.{Appends}
use Rattle.site_check.specs.Lines.{place_in}
use Rattle.site_check.specs.RuleKeys.{keys_in, other_line}
use Rattle.site_check.proofs.TableKeys.{texts}
use Rattle.site_check.proofs.rule_keys.explain_others.Given as goal

abbrev pub invariant-loop-key : goal.invariant-loop-key
invariant-loop-key g l = Appends (g.W.Write.contents l.initial.writer) (g.W.Write.contents l.writer) (flat_map (other_line (keys_in l.keys) (place_in l.place)) (texts l.yielded))
