use Rattle.std.proofs.Common.{append_assoc}
use Rattle.std.proofs.lemmas.Bool.{ne_eqb}
use Rattle.site_check.proofs.program.print_ending.Goals as goal

pub returns-then-status-eq-NO_MEMORY : goal.returns-then-status-eq-NO_MEMORY
returns-then-status-eq-NO_MEMORY g c = rw c.if-status-eq-NO_MEMORY.true c.writeln-then-status-eq-NO_MEMORY.ensures.bytes

pub returns : goal.returns
returns g c =
    rw (ne_eqb c.args.status 0 c.if-status-eq0.false, ne_eqb c.args.status 3 c.if-status-eq-NO_MEMORY.false)
    (simp append_assoc c.writeln-2.ensures.bytes)
