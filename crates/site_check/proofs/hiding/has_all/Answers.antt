use Rattle.std.proofs.Common.{◌≡◌, ◌<◌, List, ℕ, [], length, false, get_or, sym, ap, ◌∙◌, arith}
use Rattle.std.specs.List.{list_any}
use Rattle.std.proofs.lemmas.Bool.{and_from}
use Rattle.std.proofs.lemmas.List.Folds.{list_all_at, list_all_more}
use Rattle.std.proofs.lemmas.Option.{get_or_from_slice_get, slice_get-get_or}
use Rattle.slp_text.specs.Words.{bytes_eq}
use Rattle.site_check.proofs.hiding.has_all.Goals as goal
use Rattle.site_check.proofs.hiding.has_all.Goals.{in-Some+else-not-has, in_default}

pub returns-then-not-has : goal.returns-then-not-has
returns-then-not-has c =
    let has = λ (s : List ℕ). list_any (λ (k : List ℕ). bytes_eq k s) c.args.wide.now in
    let within : c.loop-i.i < length c.args.narrow.now = omega (arith, c.loop-i-test.true, c.len-i-end.ensures.value) in
    let here : get_or c.args.narrow.now c.loop-i.i [] ≡ c.in-Some.scope.now = get_or_from_slice_get c.args.narrow.now c.loop-i.i c.in-Some.scope.now [] (sym c.in-Some.ensures) in
    let lacks : has c.in-Some.scope.now ≡ false = sym c.has.ensures ∙ c.if-not-has.true in
    sym (list_all_at has c.args.narrow.now c.loop-i.i [] within (ap has here ∙ lacks))

pub loop-i-preserved : goal.loop-i-preserved
loop-i-preserved c =
    let has = λ (s : List ℕ). list_any (λ (k : List ℕ). bytes_eq k s) c.args.wide.now in
    let within : c.loop-i.i < length c.args.narrow.now = omega (arith, c.loop-i-test.true, c.len-i-end.ensures.value) in
    let there = slice_get-get_or c.args.narrow.now c.loop-i.i [] within in
    elim c.match-at.branch [
      | in-Some+else-not-has w ↦
          let here : get_or c.args.narrow.now c.loop-i.i [] ≡ w.in-Some.scope.now = get_or_from_slice_get c.args.narrow.now c.loop-i.i w.in-Some.scope.now [] (sym w.in-Some.ensures) in
          list_all_more has c.args.narrow.now c.loop-i.i [] within ∙ and_from _ _ c.loop-i.invariant (ap has here ∙ sym w.has.ensures ∙ w.if-not-has.false)
      | in_default w ↦ absurd (let none = w.in_default.ensures ∙ there in cc)
    ]
