use Rattle.std.proofs.Common.{◌+◌, ◌∷◌, ◌++◌, drop, map, sym, ap, ◌∙◌}
use Rattle.std.specs.Prelude.{string_bytes}
use Rattle.attr_list.specs.Writing.{text_of}
use Rattle.attr_list.proofs.ListedTexts.{begins-further, item_at, listed_from, listed_from-more, with_commas}
use Rattle.attr_list.proofs.writing.append_all.Goals as goal

pub loop-entry-preserved : goal.loop-entry-preserved
loop-entry-preserved c =
    let now = c.loop-entry.invariant in
    let v = c.entry-item.result in
    let i = c.loop-entry.entry-index in
    let rest = drop (i + 1) c.args.entries.now in
    let here = item_at c.args.entries.now i v c.loop-entry-test.true ∙ ap (λ j. j ∷ rest) (sym c.entry-item.is) in
    record {
      start = begins-further _ _ _ now.start c.append_next.ensures.start;
      text = ap (λ t. t ++ with_commas (map text_of rest)) c.in_ok-append_next.ensures.ok
          ∙ listed_from-more c.loop-entry.begun (string_bytes c.loop-entry.out) (text_of v) (map text_of rest)
          ∙ ap (λ vs. string_bytes c.loop-entry.out ++ listed_from c.loop-entry.begun (map text_of vs)) (sym here) ∙ now.text;
    }

pub returns-in_err-append_next-clause-start : goal.returns-in_err-append_next-clause-start
returns-in_err-append_next-clause-start c = begins-further _ _ _ c.loop-entry.invariant.start c.append_next.ensures.start
