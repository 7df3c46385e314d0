use Rattle.std.proofs.Common.{arith}
use Rattle.std.proofs.lemmas.Grind.{common_steps}
use Rattle.slp_wire.proofs.extensions.next_of.Goals as goal

pub returns-clause-value : goal.returns-clause-value
returns-clause-value c = grind (arith, common_steps)

pub returns-then-contains-clause-value : goal.returns-then-contains-clause-value
returns-then-contains-clause-value c = grind (arith, common_steps)

pub returns-then-next-at-clause-value : goal.returns-then-next-at-clause-value
returns-then-next-at-clause-value c = grind (arith, common_steps)

pub returns-then-next-eq0-clause-value : goal.returns-then-next-eq0-clause-value
returns-then-next-eq0-clause-value c = grind (arith, common_steps)
