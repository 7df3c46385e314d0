use Rattle.std.proofs.Common.{◌≡◌, true, false, ap, chars, sym, inl, inr, ◌∙◌}
use Rattle.std.specs.Prelude.{◌⊎◌, is_some}
use Rattle.std.specs.List.{list_all}
use Rattle.slp_text.specs.Keys.{is_white}
use Rattle.attr_values.specs.Rests.{rest_of}
use Rattle.attr_list.proofs.ReadLists.{values-less}
use Rattle.template_files.specs.Reading.{values_in}
use Rattle.template_files.proofs.ListedValues.{more_of, value-more, value-none, value-skipped}
use Rattle.template_files.proofs.values.read_values.Goals as goal
use Rattle.template_files.proofs.values.read_values.Goals.{then-is_some-via-then-is_some, then-is_some-via-else-is_some+then-not-is_white}

pub returns-in-None : goal.returns-in-None
returns-in-None c =
    let some : (is_some (rest_of c.cut_at.result.1) ≡ true) ⊎ (list_all is_white (chars c.cut_at.result.0.now) ≡ false) =
    elim c.then-is_some.branch [
      | then-is_some-via-then-is_some w ↦ inl (more_of c.cut_at.result.1 ∙ sym c.is_some.ensures ∙ w.if-is_some.true)
      | then-is_some-via-else-is_some+then-not-is_white w ↦ inr (sym w.is_white.ensures ∙ w.if-not-is_white.true)
    ] in
    value-none (values_in c.args.text.now) c.loop-rest.values.items (rest_of c.loop-rest.rest) (rest_of c.cut_at.result.1) (chars c.in-Some.list.now) (chars c.cut_at.result.0.now)
    c.loop-rest.invariant (ap rest_of c.in-Some.is) c.cut_at.ensures.before c.cut_at.ensures.after some (sym c.in-None.is ∙ c.in_ok-value.ensures)

pub loop-rest-smaller-in_ok-push-in-Some-2 : goal.loop-rest-smaller-in_ok-push-in-Some-2
loop-rest-smaller-in_ok-push-in-Some-2 c = values-less (rest_of c.loop-rest.rest) (rest_of c.cut_at.result.1) (chars c.in-Some.list.now) (ap rest_of c.in-Some.is) c.cut_at.ensures.after

pub loop-rest-preserved-in_ok-push-in-Some-2 : goal.loop-rest-preserved-in_ok-push-in-Some-2
loop-rest-preserved-in_ok-push-in-Some-2 c =
    let some : (is_some (rest_of c.cut_at.result.1) ≡ true) ⊎ (list_all is_white (chars c.cut_at.result.0.now) ≡ false) =
    elim c.then-is_some.branch [
      | then-is_some-via-then-is_some w ↦ inl (more_of c.cut_at.result.1 ∙ sym c.is_some.ensures ∙ w.if-is_some.true)
      | then-is_some-via-else-is_some+then-not-is_white w ↦ inr (sym w.is_white.ensures ∙ w.if-not-is_white.true)
    ] in
    value-more (values_in c.args.text.now) c.loop-rest.values.items (rest_of c.loop-rest.rest) (rest_of c.cut_at.result.1) (chars c.in-Some.list.now) (chars c.cut_at.result.0.now)
    c.loop-rest.invariant (ap rest_of c.in-Some.is) c.cut_at.ensures.before c.cut_at.ensures.after _ _ some (sym c.in-Some-2.is ∙ c.in_ok-value.ensures) c.in_ok-push-in-Some-2.ensures.items

pub loop-rest-preserved : goal.loop-rest-preserved
loop-rest-preserved c =
    value-skipped (values_in c.args.text.now) c.loop-rest.values.items (rest_of c.loop-rest.rest) (rest_of c.cut_at.result.1) (chars c.in-Some.list.now) (chars c.cut_at.result.0.now)
    c.loop-rest.invariant (ap rest_of c.in-Some.is) c.cut_at.ensures.before c.cut_at.ensures.after
    (more_of c.cut_at.result.1 ∙ sym c.is_some.ensures ∙ c.if-is_some.false) (sym c.is_white.ensures ∙ c.if-not-is_white.false)
