use Rattle.std.proofs.Common.{◌≡◌, ◌++◌, [], ◌∷◌, None, take, ap, subst, ◌∙◌, take_all}
use Rattle.std.specs.Result.{IfOk}
use Rattle.std.proofs.lemmas.List.{take_more}
use Rattle.std.proofs.lemmas.Result.{err_from_is_err_and}
use Rattle.slp_tags.proofs.tag_index.signs_of.Goals as goal

pub loop-sign-init : goal.loop-sign-init
loop-sign-init c = c.in_ok-signs.ensures.items

pub loop-sign-preserved : goal.loop-sign-preserved
loop-sign-preserved c =
    rw (take_more c.args.part.now c.loop-sign.sign-index None c.loop-sign-test.true, c.in_ok-push.ensures.items, c.loop-sign.invariant) (ap (λ sign. take c.loop-sign.sign-index c.args.part.now ++ sign ∷ []) c.character_of.ensures)

pub returns : goal.returns
returns c =
    let all = c.deref.ensures.value ∙ c.loop-sign.invariant ∙ take_all c.loop-sign.sign-index c.args.part.now c.loop-sign-test.false in
    subst (λ xs. IfOk c.new.result (λ signs. signs ≡ xs)) all c.new.ensures

pub returns-in_err-push : goal.returns-in_err-push
returns-in_err-push c = let p = err_from_is_err_and c.from_residual-in_err-push.result c.from_residual-in_err-push.ensures.1 in rw p.1 tt

pub returns-in_err-signs : goal.returns-in_err-signs
returns-in_err-signs c = let p = err_from_is_err_and c.from_residual.result c.from_residual.ensures.1 in rw p.1 tt
