use Rattle.std.proofs.Common.{◌≡◌, drop}
use Rattle.site_config.specs.Configurations.{are_distinct}
use Rattle.site_config.proofs.sockets.are_distinct.Given as goal

-- those to come decide
abbrev pub invariant-loop-i : goal.invariant-loop-i
invariant-loop-i l = are_distinct (drop l.i l.sockets) ≡ are_distinct l.sockets
