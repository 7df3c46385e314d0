use Rattle.std.proofs.Common.{◌≡◌, ℕ, List, get_or, sym, ap, ◌∙◌, refl, arith}
use Rattle.registry_core.specs.declared.entry.Entry.{Entry as Held}
use Rattle.registry_slots.specs.Orders.{place_in, rank_of}
use Rattle.registry_slots.proofs.Ranks.{stands_at}
use Rattle.registry_slots.proofs.orders.stand_of.Goals as goal

pub returns-clause-within : goal.returns-clause-within
returns-clause-within c =
    let e : Held = c.in-Some.entry.now in
    let O : List ℕ = c.args.order.now.items in
    let at : c.place_of.result ≡ place_in c.args.by c.args.slots.now.slots O (rank_of c.args.by e) = c.place_of.ensures ∙ ap (place_in c.args.by c.args.slots.now.slots O) c.spot.ensures in
    let s = stands_at c.args.by c.args.slots.now.slots O c.requires.order (rank_of c.args.by e) c.args.x e (sym c.in-Some.ensures) refl in
    omega (arith, s.0)

pub returns-clause-there : goal.returns-clause-there
returns-clause-there c =
    let e : Held = c.in-Some.entry.now in
    let O : List ℕ = c.args.order.now.items in
    let at : c.place_of.result ≡ place_in c.args.by c.args.slots.now.slots O (rank_of c.args.by e) = c.place_of.ensures ∙ ap (place_in c.args.by c.args.slots.now.slots O) c.spot.ensures in
    ap (λ n. get_or O n 0) at ∙ (stands_at c.args.by c.args.slots.now.slots O c.requires.order (rank_of c.args.by e) c.args.x e (sym c.in-Some.ensures) refl).1
