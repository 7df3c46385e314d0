use Rattle.std.proofs.Common.{◌≡◌, ◌<◌, ◌+◌, ◌-◌, ◌∷◌, ℕ, List, length, get_or, Some, sym, ap, subst, ◌∙◌, arith}
use Rattle.std.specs.Option.{option_copied}
use Rattle.registry_core.specs.declared.entry.Entry.{Entry as Held}
use Rattle.registry_slots.specs.Slots.{slot_at, tests}
use Rattle.registry_slots.proofs.Ranks.{held_at, length_most}
use Rattle.table_registry.specs.Tables.{Table, by_for, order_of, is_wanted, walked}
use Rattle.table_registry.proofs.Along.{gather_here, gather_to, gather_end}
use Rattle.table_registry.proofs.table.TableRegistry.walk.Goals as goal
use Rattle.table_registry.proofs.table.TableRegistry.walk.Goals.{After-held}

pub held-requires : goal.held-requires
held-requires c =
    let t : Table = c.args.self.now in
    let L : List ℕ = c.order-order.result.now.items in
    let O : L ≡ order_of (by_for (option_copied c.args.kind)) t = c.order-order.ensures.items ∙ ap (λ b. order_of b t) c.by_for.ensures in
    let l : c.in-Some.at < length L = subst (λ (o : List ℕ). c.in-Some.at < length o) (sym O) c.in-Some.ensures.1 in
    let e = held_at c.by_for.result t.slots L c.order-order.ensures.order c.in-Some.at c.at.result l (sym c.at.ensures.value) in
    (e.0, ap (λ (t : Table). slot_at t.slots c.at.result) c.self.view_is ∙ e.1)

pub overflow_add-result : goal.overflow_add-result
overflow_add-result c =
    let t : Table = c.args.self.now in
    let L : List ℕ = c.order-order.result.now.items in
    let O : L ≡ order_of (by_for (option_copied c.args.kind)) t = c.order-order.ensures.items ∙ ap (λ b. order_of b t) c.by_for.ensures in
    let l : c.in-Some.at < length L = subst (λ (o : List ℕ). c.in-Some.at < length o) (sym O) c.in-Some.ensures.1 in
    omega (arith, l, length_most c.by_for.result t.slots L c.order-order.ensures.order, c.self.invariant.room, ap (λ (t : Table). length t.slots) c.self.view_is)

-- what is given is what the walk has at its place
here : (c : After-held) → walked (by_for (option_copied c.args.kind)) c.args.self.now (is_wanted (option_copied c.args.bound) (option_copied c.args.kind) (option_copied c.args.scope)) c.in-Some.at
    ≡ c.held.result.now ∷ walked (by_for (option_copied c.args.kind)) c.args.self.now (is_wanted (option_copied c.args.bound) (option_copied c.args.kind) (option_copied c.args.scope)) (c.in-Some.at + 1)
here c =
    let t : Table = c.args.self.now in
    let L : List ℕ = order_of (by_for (option_copied c.args.kind)) t in
    let p = is_wanted (option_copied c.args.bound) (option_copied c.args.kind) (option_copied c.args.scope) in
    let O : c.order-order.result.now.items ≡ L = c.order-order.ensures.items ∙ ap (λ b. order_of b t) c.by_for.ensures in
    let f = c.in-Some.ensures in
    let i : ℕ = c.in-Some.at in
    let e : Held = c.held.result.now in
    let there : slot_at t.slots (get_or L i 0) ≡ Some e = ap (λ (o : List ℕ). slot_at t.slots (get_or o i 0)) (sym O) ∙ ap (slot_at t.slots) (sym c.at.ensures.value) ∙ ap (λ (t : Table). slot_at t.slots c.at.result) (sym c.self.view_is) ∙ c.held.ensures in
    gather_here p t.slots L i e f.1 there (sym (ap (tests p) there) ∙ f.3)

pub returns-in-Some-clause-next : goal.returns-in-Some-clause-next
returns-in-Some-clause-next c =
    let t : Table = c.args.self.now in
    let f = c.in-Some.ensures in
    gather_to (is_wanted (option_copied c.args.bound) (option_copied c.args.kind) (option_copied c.args.scope)) t.slots (order_of (by_for (option_copied c.args.kind)) t) c.args.from c.in-Some.at f.0 (omega (arith, f.1)) f.2 ∙ here c

pub returns-in-Some-clause-there : goal.returns-in-Some-clause-there
returns-in-Some-clause-there c =
    let at : c.in-Some.at + 1 - 1 ≡ c.in-Some.at = omega arith in
    ap (walked (by_for (option_copied c.args.kind)) c.args.self.now (is_wanted (option_copied c.args.bound) (option_copied c.args.kind) (option_copied c.args.scope))) at ∙ here c

pub returns-in-None-clause-next : goal.returns-in-None-clause-next
returns-in-None-clause-next c =
    gather_end (is_wanted (option_copied c.args.bound) (option_copied c.args.kind) (option_copied c.args.scope)) c.args.self.now.slots (order_of (by_for (option_copied c.args.kind)) c.args.self.now) c.args.from c.in-None.ensures
