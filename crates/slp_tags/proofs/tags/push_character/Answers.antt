use Rattle.std.proofs.Common.{◌++◌, [], ◌∷◌, Some, map, take, get_or, sym, ap, ◌∙◌, append-nil, append_assoc, take_all}
use Rattle.std.proofs.lemmas.List.{map_more}
use Rattle.std.proofs.lemmas.Result.{err_from_is_err_and}
use Rattle.slp_tags.proofs.tags.push_character.Goals as goal

pub loop-b-init : goal.loop-b-init
loop-b-init c = sym (append-nil _)

pub loop-b-preserved : goal.loop-b-preserved
loop-b-preserved c =
    let before = c.args.part.now.items in
    let bytes = c.as_bytes-b-items.result.now in
    let i = c.loop-b.b-index in
    let one = Some (get_or bytes i 0) ∷ [] in
    c.in_ok-push.ensures.items ∙ ap (λ t. t ++ one) c.loop-b.invariant ∙ append_assoc before (map Some (take i bytes)) one
    ∙ ap (λ t. before ++ t) (sym (map_more Some bytes i 0 c.loop-b-test.true))

pub returns : goal.returns
returns c =
    let all = take_all c.loop-b.b-index c.as_bytes-b-items.result.now c.loop-b-test.false ∙ c.as_bytes-b-items.ensures.value ∙ c.encode_utf8.ensures.value in
    c.loop-b.invariant ∙ ap (λ bytes. c.args.part.now.items ++ map Some bytes) all

pub returns-in_err-push : goal.returns-in_err-push
returns-in_err-push c = let p = err_from_is_err_and c.from_residual.result c.from_residual.ensures.1 in rw p.1 tt
