use Rattle.std.proofs.Common.{◌≡◌, ℕ, List, [], get_or, inl, inr, sym, ap, ◌∙◌, arith}
use Rattle.std.specs.List.{list_any}
use Rattle.std.proofs.lemmas.Bool.{cases_lt}
use Rattle.std.proofs.lemmas.Option.{get_or_from_slice_get}
use Rattle.access_rules.specs.Deciding.{may_show, part_in, rules_in}
use Rattle.directory_state.proofs.DeniedKinds.{none-seen}
use Rattle.directory_state.proofs.asked.Viewer.may_see.Goals as goal

pub loop-place-preserved : goal.loop-place-preserved
loop-place-preserved c = λ k lt.
    let v = c.args.self.now in
    let may = λ (s : List ℕ). list_any (may_show v.asker c.args.kind.now s) (rules_in (part_in v.about)) in
    elim (cases_lt k c.loop-place.place) [
      | inl below ↦ c.loop-place.invariant k below
      | inr above ↦
          let same : c.loop-place.place ≡ k = omega (arith, lt, above) in
          ap may (ap (λ n. get_or v.asked n []) (sym same) ∙ get_or_from_slice_get v.asked c.loop-place.place c.at.result.now [] c.at.ensures) ∙ sym c.may_show.ensures ∙ c.if-may_show.false
    ]

pub returns : goal.returns
returns c = λ is.
    none-seen c.args.self.now c.args.kind.now (λ k lt. c.loop-place.invariant k (omega (arith, lt, c.loop-place-test.false, c.len-place-end.ensures)))
