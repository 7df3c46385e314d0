use Rattle.std.proofs.Common.{Some, ap, filter}
use Rattle.registry_core.specs.Entries.{is_kind}
use Rattle.registry_core.proofs.list.next_of.Goals as goal

pub returns-in_default-clause-next : goal.returns-in_default-clause-next
returns-in_default-clause-next c = ap (filter (is_kind (Some c.args.kind.now))) c.in_default.ensures.next
