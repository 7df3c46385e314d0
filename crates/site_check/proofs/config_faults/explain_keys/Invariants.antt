use Rattle.std.proofs.Common.{take}
use Rattle.std.specs.Prelude.{flat_map}
use Rattle.std.specs.Io.KnownBytes.{Appends}
use Rattle.toml.specs.View.{view}
use Rattle.site_config.specs.Tables.{members_in}
use Rattle.site_check.specs.ConfigFaults.{key_line}
use Rattle.site_check.proofs.config_faults.explain_keys.Given as goal

abbrev pub invariant-loop-key : goal.invariant-loop-key
invariant-loop-key g l = Appends (g.W.Write.contents l.initial.writer) (g.W.Write.contents l.writer) (flat_map (key_line l.file (members_in (view l.table))) (take l.key-index l.keys))
