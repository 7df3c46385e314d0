use Rattle.std.proofs.Common.{◌+◌, ◌∷◌, ◌++◌, drop, map, sym, ap, ◌∙◌}
use Rattle.std.specs.Prelude.{string_bytes}
use Rattle.attr_values.specs.Values.{value_text}
use Rattle.attr_list.specs.Writing.{written_item}
use Rattle.attr_list.proofs.ListedTexts.{item_at, listed_from, listed_from-more, with_commas}
use Rattle.attr_union.proofs.writing.append_values.Goals as goal

pub loop-lent-preserved : goal.loop-lent-preserved
loop-lent-preserved c =
    let now = c.loop-lent.invariant in
    let v = c.lent-item.result in
    let i = c.loop-lent.lent-index in
    let rest = drop (i + 1) c.args.values.now in
    let here = item_at c.args.values.now i v c.loop-lent-test.true ∙ ap (λ j. j ∷ rest) (sym c.lent-item.is) in
    ap (λ t. t ++ with_commas (map value_text rest)) (c.in_ok-append_value.ensures ∙ ap (λ x. string_bytes c.loop-lent.out ++ written_item c.loop-lent.begun (value_text x)) c.lent.view_is)
    ∙ listed_from-more c.loop-lent.begun (string_bytes c.loop-lent.out) (value_text v) (map value_text rest)
    ∙ ap (λ vs. string_bytes c.loop-lent.out ++ listed_from c.loop-lent.begun (map value_text vs)) (sym here) ∙ now
