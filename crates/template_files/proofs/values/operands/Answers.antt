use Rattle.std.proofs.Common.{◌++◌, [], ◌∷◌, sym, ap, ◌∙◌, map}
use Rattle.std.proofs.lemmas.List.{map_push}
use Rattle.std.proofs.lemmas.Result.{err_from_is_err_and}
use Rattle.attr_operands.specs.Operands.{operand_of}
use Rattle.template_files.proofs.values.operands.Goals as goal

pub loop-value-init : goal.loop-value-init
loop-value-init c = c.in_ok-operands.ensures.items

pub loop-value-preserved : goal.loop-value-preserved
loop-value-preserved c =
    let o = c.in_ok-of.field-0 in
    c.in_ok-push.ensures.items ∙ ap (λ os. os ++ o ∷ []) c.loop-value.invariant ∙ ap (λ x. map operand_of c.loop-value.yielded ++ x ∷ []) c.in_ok-of.ensures
    ∙ sym (map_push operand_of c.loop-value.yielded c.in-Some.value)

pub returns-in_err-operands : goal.returns-in_err-operands
returns-in_err-operands c =
    let e = err_from_is_err_and c.from_residual.result c.from_residual.ensures.1 in
    rw e.1 tt

pub returns-in_err-of : goal.returns-in_err-of
returns-in_err-of c =
    let e = err_from_is_err_and c.from_residual-in_err-of.result c.from_residual-in_err-of.ensures.1 in
    rw e.1 tt

pub returns-in_err-push : goal.returns-in_err-push
returns-in_err-push c =
    let e = err_from_is_err_and c.from_residual-in_err-push.result c.from_residual-in_err-push.ensures.1 in
    rw e.1 tt
