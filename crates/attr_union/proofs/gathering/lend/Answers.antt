use Rattle.std.proofs.Common.{◌++◌, [], ◌∷◌, take, sym, ap, ◌∙◌, take_all, append_assoc, arith}
use Rattle.std.proofs.lemmas.List.{append-nil, take_more}
use Rattle.std.proofs.lemmas.Result.{err_from_is_err_and}
use Rattle.attr_union.proofs.gathering.lend.Goals as goal

pub loop-value-init : goal.loop-value-init
loop-value-init c = sym (append-nil c.args.all.now.items)

pub returns-in_err-push : goal.returns-in_err-push
returns-in_err-push c =
    let p = err_from_is_err_and c.from_residual.result c.from_residual.ensures.1 in
    rw p.1 tt

pub loop-value-preserved : goal.loop-value-preserved
loop-value-preserved c =
    let before = c.args.all.now.items in
    let done = take c.loop-value.value-index c.args.values.now in
    let more = take_more c.args.values.now c.loop-value.value-index c.value-item.result c.loop-value-test.true in
    c.in_ok-push.ensures.items ∙ ap (λ vs. vs ++ c.value-item.result ∷ []) c.loop-value.invariant ∙ append_assoc before done (c.value-item.result ∷ []) ∙ ap (λ vs. before ++ vs) (sym (more ∙ ap (λ x. done ++ x ∷ []) (sym c.value-item.is)))

pub returns : goal.returns
returns c = c.loop-value.invariant ∙ ap (λ vs. c.args.all.now.items ++ vs) (take_all c.loop-value.value-index c.args.values.now (omega (arith, c.loop-value-test.false)))
