use Rattle.std.proofs.Common.{◌+◌, ◌++◌, ◌∷◌, [], cond, drop, take, sym, subst, ap, ◌∙◌, arith, inr}
use Rattle.std.proofs.lemmas.List.{take-append-drop, take_more}
use Rattle.std.specs.List.{list_any}
use Rattle.attr_list.specs.Lists.{distinct_values, is_same}
use Rattle.attr_list.proofs.DistinctValues.{kept-more}
use Rattle.attr_union.specs.Unions.{IsIdentity}
use Rattle.attr_union.proofs.FirstValues.{distinct-front}
use Rattle.attr_union.proofs.LentValues.{seen-more}
use Rattle.attr_union.proofs.distinct.distinct.Goals as goal

pub loop-lent-preserved : goal.loop-lent-preserved
loop-lent-preserved c =
    let now = c.loop-lent.invariant in
    let done = take c.loop-lent.lent-index c.args.values.now in
    let i = c.in_ok-identity.identity in
    let v = c.lent-item.result in
    let is = subst (IsIdentity i) c.lent.view_is c.in_ok-identity.ensures in
    let after = c.in_ok-keep_if.ensures ∙ ap (λ x. cond c.in_ok-is_new.is_new (c.loop-lent.kept.items ++ x ∷ []) c.loop-lent.kept.items) c.lent.view_is in
    let more = take_more c.args.values.now c.loop-lent.lent-index v c.loop-lent-test.true ∙ ap (λ x. done ++ x ∷ []) (sym c.lent-item.is) in
    record {
      kept = kept-more done c.loop-lent.kept.items c.keep_if.new.kept.items v c.in_ok-is_new.is_new _ now.kept (now.seen i v is) c.in_ok-is_new.ensures.added after ∙ ap distinct_values (sym more);
      seen = λ j w q. seen-more done v w i j _ _ is q (now.seen j w q) (c.in_ok-is_new.ensures.updates.0 j) ∙ ap (list_any (λ u. is_same u w)) (sym more);
    }

pub returns-then-len-most : goal.returns-then-len-most
returns-then-len-most c =
    let now = c.loop-lent.invariant in
    let done = take c.loop-lent.lent-index c.args.values.now in
    let i = c.in_ok-identity.identity in
    let v = c.lent-item.result in
    let is = subst (IsIdentity i) c.lent.view_is c.in_ok-identity.ensures in
    let after = c.in_ok-keep_if.ensures ∙ ap (λ x. cond c.in_ok-is_new.is_new (c.loop-lent.kept.items ++ x ∷ []) c.loop-lent.kept.items) c.lent.view_is in
    let more = take_more c.args.values.now c.loop-lent.lent-index v c.loop-lent-test.true ∙ ap (λ x. done ++ x ∷ []) (sym c.lent-item.is) in
    let kept = kept-more done c.loop-lent.kept.items c.keep_if.new.kept.items v c.in_ok-is_new.is_new _ now.kept (now.seen i v is) c.in_ok-is_new.ensures.added after ∙ ap distinct_values (sym more) in
    let front = distinct-front (take (c.loop-lent.lent-index + 1) c.args.values.now) (drop (c.loop-lent.lent-index + 1) c.args.values.now) in
    inr (front.0, ap distinct_values (sym (take-append-drop (c.loop-lent.lent-index + 1) c.args.values.now)) ∙ front.1 ∙ ap (λ vs. vs ++ front.0) (sym kept), omega (arith, c.if-len-most.true, c.len.ensures))
