use Rattle.std.proofs.Common.{◌≡◌, ◌<◌, ◌≤◌, ◌+◌, ◌++◌, [], ℕ, List, map, get_or, length, Some, sym, ap, subst, ◌∙◌, arith}
use Rattle.std.proofs.lemmas.List.{append-nil}
use Rattle.std.specs.Arc.{arc_value}
use Rattle.registry_core.specs.declared.entry.Entry.{Entry as Held}
use Rattle.registry_core.specs.Entries.{is_kind, IsListing}
use Rattle.registry_core.proofs.Lists.{shared_more}
use Rattle.registry_slots.specs.declared.orders.By.{By}
use Rattle.registry_slots.specs.Slots.{slot_at}
use Rattle.registry_slots.specs.Orders.{IsOrder}
use Rattle.registry_slots.proofs.Ranks.{held_at, rank_within}
use Rattle.table_registry.specs.Tables.{Table, NoneIn, by_for, contents_of, order_of, walked}
use Rattle.table_registry.proofs.Along.{start_none, gather_here, gather_to, gather_end}
use Rattle.table_registry.proofs.Ranges.{end_within, range_covered, range_over}
use Rattle.table_registry.proofs.table.TableRegistryRegistry.shares_of_kind.Goals as goal
use Rattle.table_registry.proofs.table.TableRegistryRegistry.shares_of_kind.Goals.{After-loop-at}

pub loop-at-init : goal.loop-at-init
loop-at-init c =
    let t : Table = c.args.self.now in
    let k : List ℕ = c.args.kind.now in
    let way : By = by_for (Some k) in
    let L : List ℕ = order_of way t in
    let p = is_kind (Some k) in
    let start : ℕ = c.range_of-start.result.0 in
    let within : start ≤ length L = omega (arith, c.range_of-start.ensures.start, rank_within way t.slots (k, ([], [])) L) in
    let none : NoneIn p t.slots L 0 start = subst (NoneIn p t.slots L 0) (sym c.range_of-start.ensures.start) (start_none k t.slots L) in
    record {
      onward = omega arith;
      all = ap (λ (es : List Held). es ++ walked way t p start) (ap (map arc_value) c.new-shares.ensures.items) ∙ sym (gather_to p t.slots L 0 start (omega arith) within none);
    }

pub at-requires : goal.at-requires
at-requires c =
    let t : Table = c.args.self.now in
    let k : List ℕ = c.args.kind.now in
    let way : By = by_for (Some k) in
    let L : List ℕ = order_of way t in
    let O : c.order-order.result.now.items ≡ L = c.order-order.ensures.items ∙ ap (λ b. order_of b t) c.by_for.ensures in
    let sorted : IsOrder way t.slots L = subst (λ b. IsOrder b t.slots (order_of b t)) c.by_for.ensures (subst (IsOrder c.by_for.result t.slots) c.order-order.ensures.items c.order-order.ensures.order) in
    omega (arith, c.loop-at-test.true, c.range_of-start.ensures.end, end_within k t.slots L sorted, ap length O)

pub share-requires : goal.share-requires
share-requires c =
    let t : Table = c.args.self.now in
    let L : List ℕ = c.order-order.result.now.items in
    let k : List ℕ = c.args.kind.now in
    let way : By = by_for (Some k) in
    let O : L ≡ order_of way t = c.order-order.ensures.items ∙ ap (λ b. order_of b t) c.by_for.ensures in
    let sorted : IsOrder way t.slots (order_of way t) = subst (λ b. IsOrder b t.slots (order_of b t)) c.by_for.ensures (subst (IsOrder c.by_for.result t.slots) c.order-order.ensures.items c.order-order.ensures.order) in
    let l : c.loop-at.at < length L = omega (arith, c.loop-at-test.true, c.range_of-start.ensures.end, end_within k t.slots (order_of way t) sorted, ap length O) in
    let e = held_at c.by_for.result t.slots L c.order-order.ensures.order c.loop-at.at c.at.result l (sym c.at.ensures.value) in
    (e.0, ap (λ (t : Table). slot_at t.slots c.at.result) c.self.view_is ∙ e.1)

pub loop-at-preserved : goal.loop-at-preserved
loop-at-preserved c =
    let t : Table = c.args.self.now in
    let k : List ℕ = c.args.kind.now in
    let way : By = by_for (Some k) in
    let L : List ℕ = order_of way t in
    let p = is_kind (Some k) in
    let i : ℕ = c.loop-at.at in
    let e : Held = arc_value c.share.result.now in
    let O : c.order-order.result.now.items ≡ L = c.order-order.ensures.items ∙ ap (λ b. order_of b t) c.by_for.ensures in
    let sorted : IsOrder way t.slots L = subst (λ b. IsOrder b t.slots (order_of b t)) c.by_for.ensures (subst (IsOrder c.by_for.result t.slots) c.order-order.ensures.items c.order-order.ensures.order) in
    let there : slot_at t.slots (get_or L i 0) ≡ Some e = ap (λ (o : List ℕ). slot_at t.slots (get_or o i 0)) (sym O) ∙ ap (slot_at t.slots) (sym c.at.ensures.value) ∙ ap (λ (t : Table). slot_at t.slots c.at.result) (sym c.self.view_is) ∙ c.share.ensures in
    let lt : i < length L = omega (arith, c.loop-at-test.true, c.range_of-start.ensures.end, end_within k t.slots L sorted) in
    let covered = range_covered k t.slots L sorted i e (omega (arith, c.loop-at.invariant.onward, c.range_of-start.ensures.start)) (omega (arith, c.loop-at-test.true, c.range_of-start.ensures.end)) there in
    record {
      onward = omega (arith, c.loop-at.invariant.onward);
      all =
          ap (λ ss. map arc_value ss ++ walked way t p (i + 1)) c.in_ok-push.ensures.items
          ∙ shared_more c.loop-at.shares.items c.in_ok-try_clone.field-0 e (walked way t p i) (walked way t p (i + 1)) (walked way t p 0) c.in_ok-try_clone.ensures (gather_here p t.slots L i e lt there covered) c.loop-at.invariant.all;
    }

all : (c : After-loop-at) → map arc_value c.loop-at.shares.items ≡ walked (by_for (Some c.args.kind.now)) c.args.self.now (is_kind (Some c.args.kind.now)) 0
all c =
    let t : Table = c.args.self.now in
    let k : List ℕ = c.args.kind.now in
    let way : By = by_for (Some k) in
    let L : List ℕ = order_of way t in
    let p = is_kind (Some k) in
    let sorted : IsOrder way t.slots L = subst (λ b. IsOrder b t.slots (order_of b t)) c.by_for.ensures (subst (IsOrder c.by_for.result t.slots) c.order-order.ensures.items c.order-order.ensures.order) in
    let over : walked way t p c.loop-at.at ≡ [] = gather_end p t.slots L c.loop-at.at (λ j l m. range_over k t.slots L sorted j (omega (arith, l, c.loop-at-test.false, c.range_of-start.ensures.end)) m) in
    sym (append-nil (map arc_value c.loop-at.shares.items)) ∙ ap (λ es. map arc_value c.loop-at.shares.items ++ es) (sym over) ∙ c.loop-at.invariant.all

pub returns-clause-order : goal.returns-clause-order
returns-clause-order c = all c

pub returns-clause-whole : goal.returns-clause-whole
returns-clause-whole c =
    let t : Table = c.args.self.now in
    let p = is_kind (Some c.args.kind.now) in
    subst (IsListing p (contents_of t)) (sym (all c)) (subst (λ b. IsListing p (contents_of t) (walked b t p 0)) c.by_for.ensures (c.order-order.ensures.whole p))
