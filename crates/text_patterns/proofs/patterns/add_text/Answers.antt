use Rattle.std.proofs.Common.{◌++◌, Some, map, refl, sym, ap, ◌∙◌, chars}
use Rattle.std.proofs.lemmas.Str.{Chars-gives, encodes-chars}
use Rattle.caseless.specs.Caseless.{default_case_fold}
use Rattle.text_patterns.specs.Patterns.{pattern_with}
use Rattle.text_patterns.proofs.patterns.add_text.Goals as goal

pub loop-c-init : goal.loop-c-init
loop-c-init c =
    let folds = c.default_case_fold-c-items.ensures.text _ (Chars-gives (chars c.args.text.now) c.chars.result (encodes-chars _ c.utf8.text ∙ sym c.chars.ensures.rest)) in
    (default_case_fold (chars c.args.text.now), rw c.into_iter-c-iterator.ensures.into_iter_gives folds, λ rest. refl)

pub loop-c-preserved : goal.loop-c-preserved
loop-c-preserved c =
    let now = c.loop-c.invariant in
    let cut = c.in-Some.ensures.steps.first.at now.0 now.1 in (
      cut.0,
      cut.2,
      λ rest. c.in_ok-gap.ensures (map Some cut.0 ++ rest) ∙ ap (λ cs. pattern_with c.loop-c.gap c.loop-c.signs.items (map Some cs ++ rest)) (sym cut.1) ∙ now.2 rest,
    )

pub returns : goal.returns
returns c =
    let now = c.loop-c.invariant in
    let ended = c.in-None.ensures.steps.first.at now.0 now.1 in
    λ rest. ap (λ cs. pattern_with c.loop-c.gap c.loop-c.signs.items (map Some cs ++ rest)) (sym ended) ∙ now.2 rest
