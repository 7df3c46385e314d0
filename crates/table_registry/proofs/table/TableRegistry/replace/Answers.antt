use Rattle.std.proofs.Common.{◌≡◌, true, Some, None, set, sym, ap, ◌∙◌}
use Rattle.std.specs.Arc.{arc_value}
use Rattle.std.proofs.lemmas.List.{set-set}
use Rattle.registry_core.specs.declared.entry.Entry.{Entry as Held}
use Rattle.registry_core.specs.Entries.{are_alike}
use Rattle.registry_slots.specs.Slots.{slot_at, tests}
use Rattle.registry_slots.proofs.SlotLists.{cleared}
use Rattle.table_registry.proofs.table.TableRegistry.replace.Goals as goal

pub renew-requires : goal.renew-requires
renew-requires c =
    let o : Held = c.requires.0 in
    let alike : are_alike o c.deref-held.result.now ≡ true = sym (ap (tests (λ e. are_alike e c.deref-held.result.now)) c.requires.1) ∙ sym c.if-has_alike.ensures.value in
    (o, c.requires.1, c.requires.2, ap (are_alike o) (sym c.deref-held.ensures) ∙ alike)

pub add-requires-clause-fresh : goal.add-requires-clause-fresh
add-requires-clause-fresh c = λ y f h p.
    let w = cleared c.args.self.now.slots c.args.x y f (sym (ap (λ ss. slot_at ss y) c.take.ensures) ∙ h) in
    w.1 (c.has_alike.ensures.apart y c.args.x f c.requires.0 w.0 c.requires.1 (p ∙ sym c.requires.2))

pub returns-else-has_alike : goal.returns-else-has_alike
returns-else-has_alike c = c.add.ensures ∙ ap (λ ss. set ss c.args.x (Some (arc_value c.args.entry))) c.take.ensures ∙ set-set c.args.self.now.slots c.args.x None (Some (arc_value c.args.entry))
