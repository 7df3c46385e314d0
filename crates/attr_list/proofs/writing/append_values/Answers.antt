use Rattle.std.proofs.Common.{◌+◌, ◌∷◌, ◌++◌, drop, map, sym, ap, ◌∙◌}
use Rattle.std.specs.Prelude.{string_bytes}
use Rattle.attr_values.specs.Values.{value_text}
use Rattle.attr_list.proofs.ListedTexts.{begins-further, item_at, listed_from, listed_from-more, with_commas}
use Rattle.attr_list.proofs.writing.append_values.Goals as goal

pub loop-value-preserved : goal.loop-value-preserved
loop-value-preserved c =
    let now = c.loop-value.invariant in
    let v = c.value-item.result in
    let i = c.loop-value.value-index in
    let rest = drop (i + 1) c.args.values.now in
    let here = item_at c.args.values.now i v c.loop-value-test.true ∙ ap (λ j. j ∷ rest) (sym c.value-item.is) in
    record {
      start = begins-further _ _ _ now.start c.append_value.ensures.start;
      text = ap (λ t. t ++ with_commas (map value_text rest)) c.in_ok-append_value.ensures.ok
          ∙ listed_from-more c.loop-value.begun (string_bytes c.loop-value.out) (value_text v) (map value_text rest)
          ∙ ap (λ vs. string_bytes c.loop-value.out ++ listed_from c.loop-value.begun (map value_text vs)) (sym here) ∙ now.text;
    }

pub returns-in_err-append_value-clause-start : goal.returns-in_err-append_value-clause-start
returns-in_err-append_value-clause-start c = begins-further _ _ _ c.loop-value.invariant.start c.append_value.ensures.start
