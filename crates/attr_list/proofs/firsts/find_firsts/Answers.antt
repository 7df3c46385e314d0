use Rattle.std.proofs.Common.{◌≡◌, ◌∙◌, ◌+◌, ◌-◌, false, sym, ap, subst, length, map, get_or, set, arith, rules, refl, inl, inr}
use Rattle.std.specs.Prelude.{vec_len}
use Rattle.std.specs.Ordering.{is_eq}
use Rattle.std.proofs.lemmas.Grind.{common_steps}
use Rattle.std.proofs.lemmas.List.{get_or_default, length-map, length-set}
use Rattle.attr_list.specs.declared.order.Ranked.{Ranked}
use Rattle.attr_list.proofs.DistinctValues.{identity_cmp}
use Rattle.attr_list.proofs.FirstValues.{are-firsts, differs, earliest-none, first-below, found-none, head-none, place-below, place-is, step-apart, step-same, Found, IsEarliest, Repeats}
use Rattle.attr_list.proofs.firsts.find_firsts.Goals as goal
use Rattle.attr_list.proofs.firsts.find_firsts.Goals.{in-empty, in-len1-up}
use Rattle.attr_list.proofs.firsts.find_firsts.Goals.{then-not-ties, else-not-ties+then-first-place, else-not-ties+else-first-place}

pub loop-next-init : goal.loop-next-init
loop-next-init c = record {
  count = search rules;
  repeats = grind (arith, common_steps);
  found = found-none c.args.values.now c.args.ranked.now c.requires c.in_ok-firsts.firsts.items;
  earliest = earliest-none c.args.values.now c.args.ranked.now c.requires c.if-ranked-lt1.first (elim c.if-ranked-lt1.branch [
    | in-empty w ↦ w.first-is ∙ head-none c.args.values.now c.args.ranked.now c.requires c.args.ranked.now w.in-empty.len_below
    | in-len1-up w ↦ w.first-is ∙ place-is c.args.values.now c.args.ranked.now c.requires 0 0 w.one-item.result (omega (arith, w.in-len1-up.len_at_least)) w.one-item.is
  ]);
}

pub index_mut-requires : goal.index_mut-requires
index_mut-requires c =
    let long : vec_len c.loop-next.firsts ≡ length c.loop-next.firsts.items = search rules in
    let one = c.index-ranked-next.result in
    omega (arith, long, c.loop-next.invariant.count, ap (λ (r : Ranked). r.place) c.index-ranked-next.is, place-below c.args.values.now c.args.ranked.now c.requires c.loop-next.next one c.loop-next-test.true)

pub index_mut-requires-else-first-place : goal.index_mut-requires-else-first-place
index_mut-requires-else-first-place c =
    let vs = c.args.values.now in
    let rs = c.args.ranked.now in
    let n = c.loop-next.next in
    let follows : n - 1 + 1 ≡ n = omega arith in
    let before = get_or rs (n - 1) c.index-ranked-next-in-loop-next.result in
    let one = c.index-ranked-next.result in
    let is-before = get_or_default rs (n - 1) c.index-ranked-next-in-loop-next.result before (omega (arith, c.loop-next-test.true)) in
    let long : vec_len c.loop-next.firsts ≡ length c.loop-next.firsts.items = search rules in
    omega (arith, long, c.loop-next.invariant.count, first-below vs rs c.requires (n - 1) n follows c.loop-next-test.true before one is-before c.index-ranked-next.is c.loop-next.firsts.items c.loop-next.first c.loop-next.invariant.found c.loop-next.invariant.earliest)

pub loop-next-preserved : goal.loop-next-preserved
loop-next-preserved c =
    let vs = c.args.values.now in
    let rs = c.args.ranked.now in
    let n = c.loop-next.next in
    let follows : n - 1 + 1 ≡ n = omega arith in
    let before = get_or rs (n - 1) c.index-ranked-next-in-loop-next.result in
    let one = c.index-ranked-next.result in
    let is-before = get_or_default rs (n - 1) c.index-ranked-next-in-loop-next.result before (omega (arith, c.loop-next-test.true)) in
    let noted = c.loop-next.firsts.items in
    let place = ap (λ (r : Ranked). r.place) c.index-ranked-next.is in
    let again : get_or rs n c.index-ranked-next-in-loop-next-2.result ≡ one = get_or_default rs n c.index-ranked-next-in-loop-next-2.result one c.loop-next-test.true ∙ sym c.index-ranked-next.is in
    let compared : is_eq (identity_cmp before.identity one.identity) ≡ c.is_eq-ties.result =
    ap (λ s. is_eq (identity_cmp before.identity s.identity)) (sym again) ∙ ap is_eq (sym c.cmp.ensures) ∙ sym c.is_eq-ties.ensures in
    let now = c.loop-next.invariant in
    elim c.if-not-ties.branch [
      | then-not-ties w ↦
          let step = step-apart vs rs c.requires (n - 1) n follows c.loop-next-test.true before one is-before c.index-ranked-next.is noted c.loop-next.first now.found now.earliest (compared ∙ w.if-not-ties.true) in
          let is = ap (λ v. v.items) w.firsts-is in
          record {
            count = ap length is ∙ now.count;
            repeats = subst (Repeats vs) (sym is) now.repeats;
            found = subst (λ fs. Found vs fs (map (λ r. r.place) rs) (n + 1)) (sym is) step.0;
            earliest = subst (IsEarliest vs (map (λ r. r.place) rs) (n + 1 - 1)) (place ∙ sym w.first-is) step.1;
          }
      | else-not-ties+then-first-place w ↦
          let step = step-same vs rs c.requires (n - 1) n follows c.loop-next-test.true before one is-before c.index-ranked-next.is noted c.loop-next.first now.found now.earliest (compared ∙ w.if-not-ties.false) one.place c.loop-next.first (omega (arith, place, w.if-first-place.true)) (inl (refl, refl)) now.count now.repeats in
          let is : c.if-not-ties.firsts.items ≡ set noted one.place false = ap (λ v. v.items) w.firsts-is ∙ ap (λ p. set noted p false) (sym place) in
          record {
            count = ap length is ∙ length-set noted one.place false ∙ now.count;
            repeats = subst (Repeats vs) (sym is) step.0;
            found = subst (λ fs. Found vs fs (map (λ r. r.place) rs) (n + 1)) (sym is) step.1;
            earliest = subst (IsEarliest vs (map (λ r. r.place) rs) (n + 1 - 1)) (sym w.first-is) step.2;
          }
      | else-not-ties+else-first-place w ↦
          let step = step-same vs rs c.requires (n - 1) n follows c.loop-next-test.true before one is-before c.index-ranked-next.is noted c.loop-next.first now.found now.earliest (compared ∙ w.if-not-ties.false) c.loop-next.first one.place (omega (arith, place, w.if-first-place.false, λ (z : c.loop-next.first ≡ one.place). differs vs rs c.requires (n - 1) n follows c.loop-next-test.true before one is-before c.index-ranked-next.is noted c.loop-next.first now.found now.earliest (compared ∙ w.if-not-ties.false) z)) (inr (refl, refl)) now.count now.repeats in
          let is : c.if-not-ties.firsts.items ≡ set noted c.loop-next.first false = ap (λ v. v.items) w.firsts-is in
          record {
            count = ap length is ∙ length-set noted c.loop-next.first false ∙ now.count;
            repeats = subst (Repeats vs) (sym is) step.0;
            found = subst (λ fs. Found vs fs (map (λ r. r.place) rs) (n + 1)) (sym is) step.1;
            earliest = subst (IsEarliest vs (map (λ r. r.place) rs) (n + 1 - 1)) (place ∙ sym w.first-is) step.2;
          }
    ]

pub returns : goal.returns
returns c =
    are-firsts c.args.values.now (map (λ r. r.place) c.args.ranked.now) c.loop-next.firsts.items c.loop-next.next c.requires.each c.loop-next.invariant.count c.loop-next.invariant.repeats c.loop-next.invariant.found
    (omega (arith, length-map c.args.ranked.now (λ (r : Ranked). r.place), c.loop-next-test.false))
