use Rattle.std.proofs.Common.{◌≡◌, ◌<◌, ◌+◌, ◌-◌, Some, sym, ap, ◌∙◌, length, arith}
use Rattle.std.specs.Arc.{arc_value}
use Rattle.registry_core.specs.Entries.{is_kind}
use Rattle.registry_core.specs.Lists.{kinds_from}
use Rattle.registry_core.proofs.Lists.{walk_here, walk_past}
use Rattle.registry_core.proofs.list.next_of_kind.Goals as goal

pub returns-then-covers-clause-next : goal.returns-then-covers-clause-next
returns-then-covers-clause-next c =
    let p = is_kind (Some c.args.kind.now) in
    let lt : c.loop-at.at < length c.args.entries.now = c.loop-at-test.true in
    sym c.loop-at.invariant ∙ walk_here arc_value p c.args.entries.now c.loop-at.at c.index-entries-at.result c.deref-entry.result.now lt c.index-entries-at.is c.deref-entry.ensures (sym c.covers.ensures ∙ c.if-covers.true)

pub loop-at-preserved : goal.loop-at-preserved
loop-at-preserved c =
    let p = is_kind (Some c.args.kind.now) in
    let lt : c.loop-at.at < length c.args.entries.now = c.loop-at-test.true in
    walk_past arc_value p c.args.entries.now c.loop-at.at c.index-entries-at.result c.deref-entry.result.now lt c.index-entries-at.is c.deref-entry.ensures (sym c.covers.ensures ∙ c.if-covers.false) ∙ c.loop-at.invariant

pub returns-then-covers-clause-there : goal.returns-then-covers-clause-there
returns-then-covers-clause-there c =
    let p = is_kind (Some c.args.kind.now) in
    let lt : c.loop-at.at < length c.args.entries.now = c.loop-at-test.true in
    let at : c.loop-at.at + 1 - 1 ≡ c.loop-at.at = omega arith in
    ap (kinds_from (Some c.args.kind.now) c.args.entries.now) at ∙ walk_here arc_value p c.args.entries.now c.loop-at.at c.index-entries-at.result c.deref-entry.result.now lt c.index-entries-at.is c.deref-entry.ensures (sym c.covers.ensures ∙ c.if-covers.true)
