use Rattle.std.proofs.Common.{◌++◌, [], ◌∷◌, sym, subst, ap, ◌∙◌, map, cond}
use Rattle.std.specs.List.{AllByRecursion}
use Rattle.std.proofs.lemmas.List.{append-nil, map_push}
use Rattle.std.proofs.lemmas.Result.{err_from_is_err_and}
use Rattle.attr_list.specs.Pieces.{IsElement}
use Rattle.attr_list.proofs.Gathered.{all_append}
use Rattle.attr_union.specs.Unions.{piece_element}
use Rattle.attr_union.proofs.pieces.push_accepted.Goals as goal

pub returns-in_err-push-clause-added : goal.returns-in_err-push-clause-added
returns-in_err-push-clause-added g c =
    let e = err_from_is_err_and c.from_residual.result c.from_residual.ensures.1 in
    λ p answers. rw e.1 tt

pub returns-in_err-push-clause-sound : goal.returns-in_err-push-clause-sound
returns-in_err-push-clause-sound g c = λ _ was. subst (λ xs. AllByRecursion IsElement (map piece_element xs)) (sym c.in_err-push.ensures.items) was

pub returns-in_ok-push-clause-added : goal.returns-in_ok-push-clause-added
returns-in_ok-push-clause-added g c = λ p answers.
    let before = c.args.pieces.now.items in
    ap (map piece_element) c.in_ok-push.ensures.items ∙ map_push piece_element before c.args.piece
    ∙ ap (λ b. map piece_element before ++ cond b (piece_element c.args.piece ∷ []) []) (sym c.if-accepts.true ∙ answers _ _ c.accepts.ensures)

pub returns-in_ok-push-clause-sound : goal.returns-in_ok-push-clause-sound
returns-in_ok-push-clause-sound g c = λ is was.
    let before = c.args.pieces.now.items in
    let after = ap (map piece_element) c.in_ok-push.ensures.items ∙ map_push piece_element before c.args.piece in
    subst (AllByRecursion IsElement) (sym after) (all_append IsElement (map piece_element before) (piece_element c.args.piece ∷ []) was (is, tt))

pub returns-else-accepts-clause-added : goal.returns-else-accepts-clause-added
returns-else-accepts-clause-added g c = λ p answers.
    let before = c.args.pieces.now.items in
    sym (append-nil (map piece_element before)) ∙ ap (λ b. map piece_element before ++ cond b (piece_element c.args.piece ∷ []) []) (sym c.if-accepts.false ∙ answers _ _ c.accepts.ensures)
