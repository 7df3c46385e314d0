use Rattle.std.proofs.Common.{◌++◌, [], ◌∷◌, Some, map, sym, ap, ap₂, ◌∙◌, take_all}
use Rattle.std.proofs.lemmas.List.{take_more, map_push}
use Rattle.std.proofs.lemmas.Result.{err_from_is_err_and}
use Rattle.slp_tags.proofs.tag_index.word_of.Goals as goal

pub loop-sign-init : goal.loop-sign-init
loop-sign-init c = ap (map Some) (sym c.new-word.ensures.items)

pub loop-sign-preserved : goal.loop-sign-preserved
loop-sign-preserved c =
    take_more c.args.part.now c.loop-sign.sign-index _ c.loop-sign-test.true ∙ ap₂ (λ xs x. xs ++ x ∷ []) c.loop-sign.invariant c.in-Some.is
    ∙ sym (map_push Some c.loop-sign.word.items c.in-Some.b) ∙ ap (map Some) (sym c.in_ok-push-in-Some.ensures.items)

pub returns : goal.returns
returns c = sym (take_all c.loop-sign.sign-index c.args.part.now c.loop-sign-test.false) ∙ c.loop-sign.invariant

pub returns-in_err-push-in-Some : goal.returns-in_err-push-in-Some
returns-in_err-push-in-Some c = let p = err_from_is_err_and c.from_residual.result c.from_residual.ensures.1 in rw p.1 tt
