use Rattle.std.proofs.Common.{◌≡◌, ◌<◌, List, [], ◌∷◌, length, refl, arith}
use Rattle.attr_values.specs.declared.value.Value.{Value}
use Rattle.attr_list.specs.Lists.{distinct_values}
use Rattle.attr_list.proofs.DistinctValues.{kept-more, seen-more}
use Rattle.attr_list.proofs.distinct.distinct.Goals as goal

few : (vs : List Value) → length vs < 2 → vs ≡ distinct_values vs
few [] h = refl
few (v ∷ []) h = refl
few (v ∷ w ∷ vs) h = absurd (omega (arith, h))

pub returns-then-len-lt2 : goal.returns-then-len-lt2
returns-then-len-lt2 c = few c.args.values.items (omega arith)

pub loop-value-preserved : goal.loop-value-preserved
loop-value-preserved c =
    let now = c.loop-value.invariant in
    let i = c.in_ok-identity.identity in
    let v = c.in-Some.value in
    let is = c.in_ok-identity.ensures in
    record {
      kept = kept-more c.loop-value.yielded c.loop-value.kept.items c.keep_if.new.kept.items v c.in_ok-is_new.is_new _ now.kept (now.seen i v is) c.in_ok-is_new.ensures.added c.in_ok-keep_if.ensures;
      seen = λ j w q. seen-more c.loop-value.yielded v w i j _ _ is q (now.seen j w q) (c.in_ok-is_new.ensures.updates.0 j);
    }
