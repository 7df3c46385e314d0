use Rattle.std.proofs.Common.{◌≡◌, Bool, true, false, sym, ap, ◌∙◌}
use Rattle.std.specs.Prelude.{◌||◌}
use Rattle.std.specs.Ordering.{is_lt, match_ordering}
use Rattle.std.specs.declared.cmp.Ordering.{Ordering}
use Rattle.std.specs.declared.cmp.Ordering.TheVariants.{Less, Equal, Greater}
use Rattle.slp_text.specs.Words.{bytes_cmp}
use Rattle.registry_core.specs.declared.entry.Entry.{Entry as Held}
use Rattle.registry_core.specs.Entries.{pair_cmp, pair_of}
use Rattle.registry_slots.specs.declared.orders.By.{By}
use Rattle.registry_slots.specs.declared.orders.Spot.{Spot}
use Rattle.registry_slots.specs.Orders.{front_of, rank_cmp, rank_of, spot_rank}
use Rattle.registry_slots.proofs.Ranks.{spot_before}
use Rattle.registry_slots.proofs.orders.is_before.Goals as goal

abbrev by_pair : Held → Spot → Bool
by_pair e s = s.is_behind || is_lt (pair_cmp (pair_of e) (s.url.now, s.language.now))

-- what a compare of the fronts tells
told : (b : By) (e : Held) (s : Spot) (o : Ordering) → o ≡ bytes_cmp (front_of b e) s.front.now → match_ordering o true (by_pair e s) false ≡ is_lt (rank_cmp (rank_of b e) (spot_rank s))
told b e s o cmp = ap (λ o. match_ordering o true (by_pair e s) false) cmp
    ∙ spot_before (front_of b e) s.front.now (pair_of e) (s.url.now, s.language.now) s.is_behind

pub returns-in-Less : goal.returns-in-Less
returns-in-Less c = told c.args.by c.args.entry.now c.args.spot.now Less (sym c.in-Less.is ∙ c.cmp_front.ensures)

pub returns-in-Greater : goal.returns-in-Greater
returns-in-Greater c = told c.args.by c.args.entry.now c.args.spot.now Greater (sym c.in-Greater.is ∙ c.cmp_front.ensures)

pub returns-then-spot : goal.returns-then-spot
returns-then-spot c =
    c.if-spot.true ∙ ap (λ b. b || is_lt (pair_cmp (pair_of c.args.entry.now) (c.args.spot.now.url.now, c.args.spot.now.language.now))) (sym c.if-spot.true)
    ∙ told c.args.by c.args.entry.now c.args.spot.now Equal (sym c.in-Equal.is ∙ c.cmp_front.ensures)
