use Rattle.std.proofs.Common.{◌≡◌, ◌<◌, None, length, true, get_or, sym, ap, subst, ◌∙◌, arith}
use Rattle.slp_text.specs.Words.{bytes_eq}
use Rattle.registry_core.specs.Entries.{is_kind, Passes}
use Rattle.registry_slots.specs.declared.orders.By.TheVariants as by
use Rattle.registry_slots.specs.Slots.{slot_at, tests}
use Rattle.registry_slots.specs.Orders.{place_in, rank_behind}
use Rattle.table_registry.specs.Tables.{Table, walked}
use Rattle.table_registry.proofs.OneType.{onward-kind, passes-kind}
use Rattle.table_registry.proofs.table.TableRegistryRegistry.past_kind.Goals as goal
use Rattle.table_registry.proofs.table.TableRegistryRegistry.past_kind.Goals.{After-end_of_kind}

within : (c : After-end_of_kind) → c.args.from < length c.self.inside.kinds.items
within c = omega (arith, c.if-from-len.false, c.len.ensures.value)

here : (c : After-end_of_kind) → tests (λ e. bytes_eq e.kind c.args.kind.now) (slot_at c.self.inside.slots.slots (get_or c.self.inside.kinds.items c.args.from 0)) ≡ true
here c =
    ap (λ x. tests (λ e. bytes_eq e.kind c.args.kind.now) (slot_at c.self.inside.slots.slots x)) (sym c.at.ensures.value)
    ∙ ap (λ (t : Table). tests (λ e. bytes_eq e.kind c.args.kind.now) (slot_at t.slots c.at.result)) c.self.view_is ∙ sym c.has_kind.ensures ∙ c.if-not-has_kind.false

end : (c : After-end_of_kind) → c.end_of_kind.result ≡ place_in by.Kind c.self.inside.slots.slots c.self.inside.kinds.items (rank_behind c.args.kind.now)
end c = c.end_of_kind.ensures ∙ ap (λ (t : Table). place_in by.Kind t.slots t.kinds (rank_behind c.args.kind.now)) (sym c.self.view_is)

pub returns-clause-passes : goal.returns-clause-passes
returns-clause-passes c =
    subst (λ (t : Table). Passes c.args.kind.now (walked by.Kind t (is_kind None) c.args.from) (walked by.Kind t (is_kind None) c.end_of_kind.result)) c.self.view_is
    (subst (λ n. Passes c.args.kind.now (walked by.Kind (record { slots = c.self.inside.slots.slots; places = c.self.inside.places.items; roots = c.self.inside.roots.items; kinds = c.self.inside.kinds.items }) (is_kind None) c.args.from) (walked by.Kind (record { slots = c.self.inside.slots.slots; places = c.self.inside.places.items; roots = c.self.inside.roots.items; kinds = c.self.inside.kinds.items }) (is_kind None) n)) (sym (end c))
    (passes-kind c.self.inside.slots.slots c.self.inside.kinds.items c.self.invariant.kinds c.args.kind.now c.args.from (within c) (here c)))

pub returns-clause-onward : goal.returns-clause-onward
returns-clause-onward c = omega (arith, end c, onward-kind c.self.inside.slots.slots c.self.inside.kinds.items c.self.invariant.kinds c.args.kind.now c.args.from (within c) (here c))
