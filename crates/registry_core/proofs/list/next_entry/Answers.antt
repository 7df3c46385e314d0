use Rattle.std.proofs.Common.{◌≡◌, ◌+◌, ◌-◌, ap, ◌∙◌, arith}
use Rattle.std.specs.Arc.{arc_value}
use Rattle.registry_core.specs.Lists.{entries_from}
use Rattle.registry_core.proofs.Lists.{entry_here}
use Rattle.registry_core.proofs.list.next_entry.Goals as goal

pub returns-clause-next : goal.returns-clause-next
returns-clause-next c = entry_here arc_value c.args.entries.now c.args.from c.index-entries-from.result c.deref-entry.result.now c.if-from-entries.false c.index-entries-from.is c.deref-entry.ensures

pub returns-clause-there : goal.returns-clause-there
returns-clause-there c =
    let at : c.args.from + 1 - 1 ≡ c.args.from = omega arith in
    ap (entries_from c.args.entries.now) at ∙ entry_here arc_value c.args.entries.now c.args.from c.index-entries-from.result c.deref-entry.result.now c.if-from-entries.false c.index-entries-from.is c.deref-entry.ensures
