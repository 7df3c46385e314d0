use Rattle.std.proofs.Common.{◌≡◌, ℕ, List, [], Some, sym, ap, ap₂, subst, ◌∙◌, arith}
use Rattle.std.specs.Option.{option_copied}
use Rattle.registry_core.specs.Entries.{is_kind}
use Rattle.table_registry.specs.Tables.{Table, NoneIn, by_for, order_of}
use Rattle.registry_slots.specs.Orders.{place_in, spot_rank}
use Rattle.table_registry.proofs.Along.{start_none}
use Rattle.table_registry.proofs.table.TableRegistry.start.Goals as goal

pub returns-in-Some-clause-none : goal.returns-in-Some-clause-none
returns-in-Some-clause-none c =
    let k : List ℕ = c.in-Some.named.now in
    let K : option_copied c.args.kind ≡ Some k = ap option_copied c.in-Some.is in
    let B : c.by_for-by.result ≡ by_for (Some k) = c.by_for-by.ensures ∙ ap by_for K in
    let S : c.self.inside.slots.slots ≡ c.args.self.now.slots = ap (λ (t : Table). t.slots) c.self.view_is in
    let O : c.order.result.now.items ≡ order_of (by_for (Some k)) c.args.self.now = c.order.ensures.items ∙ ap (λ b. order_of b c.args.self.now) B in
    let Z : c.args.from ≡ 0 = omega arith in
    let at : c.place_of.result ≡ place_in (by_for (Some k)) c.args.self.now.slots (order_of (by_for (Some k)) c.args.self.now) (k, ([], [])) =
    c.place_of.ensures ∙ ap (λ b. place_in b c.self.inside.slots.slots c.order.result.now.items (spot_rank c.before-spot.result)) B
    ∙ ap₂ (λ ss o. place_in (by_for (Some k)) ss o (spot_rank c.before-spot.result)) S O
    ∙ ap (place_in (by_for (Some k)) c.args.self.now.slots (order_of (by_for (Some k)) c.args.self.now)) (c.before-spot.ensures ∙ ap (λ (f : List ℕ). (f, ([], []))) (c.as_bytes.ensures.value ∙ c.text.ensures)) in
    subst (λ o. NoneIn (is_kind o) c.args.self.now.slots (order_of (by_for o) c.args.self.now) c.args.from c.place_of.result) (sym K)
    (subst (λ n. NoneIn (is_kind (Some k)) c.args.self.now.slots (order_of (by_for (Some k)) c.args.self.now) n c.place_of.result) (sym Z)
    (subst (NoneIn (is_kind (Some k)) c.args.self.now.slots (order_of (by_for (Some k)) c.args.self.now) 0) (sym at) (start_none k c.args.self.now.slots (order_of (by_for (Some k)) c.args.self.now))))
