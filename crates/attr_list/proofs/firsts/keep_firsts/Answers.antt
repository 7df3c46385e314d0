use Rattle.std.proofs.Common.{◌≡◌, ◌∙◌, ◌<◌, ◌+◌, [], ◌∷◌, ◌++◌, false, true, sym, ap, ap₂, length, take, get_or, arith, rules}
use Rattle.std.proofs.lemmas.Iterator.Adapters.{YieldsList-from_vec}
use Rattle.std.proofs.lemmas.Iterator.Consumers.{YieldsList-turn}
use Rattle.std.proofs.lemmas.List.{get_or_default, length_push, take_more}
use Rattle.attr_list.proofs.KeptInOrder.{distinct-shorter, kept-one, places-one}
use Rattle.attr_list.proofs.firsts.keep_firsts.Goals as goal

pub overflow_cast-len : goal.overflow_cast-len
overflow_cast-len c =
    let all = c.into_iter-value-iterator.ensures.into_iter_gives in
    let turn = YieldsList-turn (YieldsList-from_vec {s = c.into_iter-value-iterator.result} c.args.values.items all.0 (all.1 ∙ c.args.values.ok.0)) c.loop-value.yielded c.loop-value.value-iterator c.loop-value.yielded_by c.next.result c.next.new.self c.in-Some.value c.in-Some.is c.next.ensures.steps in
    let count : c.len-in-loop-value-2.result ≡ length c.loop-value.kept.items = search rules in
    let small : c.len-in-loop-value-2.result < 65536 = omega (arith, count, turn.0, ap length c.loop-value.invariant.kept, distinct-shorter c.loop-value.yielded, c.requires.few) in
    search rules

pub loop-value-preserved : goal.loop-value-preserved
loop-value-preserved c =
    let all = c.into_iter-value-iterator.ensures.into_iter_gives in
    let turn = YieldsList-turn (YieldsList-from_vec {s = c.into_iter-value-iterator.result} c.args.values.items all.0 (all.1 ∙ c.args.values.ok.0)) c.loop-value.yielded c.loop-value.value-iterator c.loop-value.yielded_by c.next.result c.next.new.self c.in-Some.value c.in-Some.is c.next.ensures.steps in
    let vs = c.args.values.items in
    let firsts = c.args.firsts.now in
    let done = c.loop-value.yielded in
    let kept = c.loop-value.kept.items in
    let places = c.loop-value.new_places.items in
    let v = c.in-Some.value in
    let now = c.loop-value.invariant in
    let many : c.len-in-loop-value.result ≡ length places = search rules in
    let place : c.len-in-loop-value-2.result ≡ length kept = search rules in
    let told : get_or firsts c.len-in-loop-value.result false ≡ get_or firsts (length done) true =
    get_or_default firsts c.len-in-loop-value.result false true (omega (arith, many, now.count, turn.0, c.requires.firsts.count)) ∙ ap (λ n. get_or firsts n true) (many ∙ now.count) in
    let pushed : c.push.new.self.items ≡ places ++ length kept ∷ [] = c.in_ok-push.ensures.items ∙ ap (λ n. places ++ n ∷ []) place in
    record {
      front = ap₂ (λ us w. us ++ w ∷ []) now.front turn.1 ∙ sym (take_more vs (length done) v turn.0) ∙ ap (λ n. take n vs) (sym (length_push done v));
      kept = kept-one vs firsts c.requires.firsts done kept c.keep_if.new.kept.items v (get_or firsts c.len-in-loop-value.result false) now.front turn.0 turn.1 now.kept told c.in_ok-keep_if.ensures;
      count = ap length pushed ∙ length_push places (length kept) ∙ ap (λ n. n + 1) now.count ∙ sym (length_push done v);
      places = λ p b. ap (λ ns. get_or ns p 0) pushed ∙ places-one vs done kept places v now.front now.count now.kept now.places p b;
    }
