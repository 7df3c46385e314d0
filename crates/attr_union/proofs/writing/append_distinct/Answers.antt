use Rattle.std.proofs.Common.{◌≡◌, ◌<◌, List, [], ◌∷◌, ◌++◌, length, map, ap, ◌∙◌, refl, arith, inl}
use Rattle.std.specs.Prelude.{string_bytes}
use Rattle.std.proofs.lemmas.Result.{IfOk-weaker}
use Rattle.slp_text.specs.Lists.{comma_list}
use Rattle.attr_values.specs.Values.{value_text}
use Rattle.attr_values.specs.declared.value.Value.{Value}
use Rattle.attr_list.specs.Lists.{distinct_values}
use Rattle.attr_union.proofs.writing.append_distinct.Goals as goal

few : (vs : List Value) → length vs < 2 → vs ≡ distinct_values vs
few [] h = refl
few (v ∷ []) h = refl
few (v ∷ w ∷ vs) h = absurd (omega (arith, h))

pub returns-then-values-lt2 : goal.returns-then-values-lt2
returns-then-values-lt2 c = IfOk-weaker c.append_values.result _ _ (λ u is. (c.args.values.now, inl (few c.args.values.now (omega arith)), is)) c.append_values.ensures

pub returns : goal.returns
returns c = IfOk-weaker c.append_values-2.result _ _ (λ u is. (c.in_ok-kept.kept.items, c.in_ok-kept.ensures, is ∙ ap (λ vs. string_bytes c.args.out.now ++ comma_list (map value_text vs)) c.deref.ensures.value)) c.append_values-2.ensures
