use Rattle.std.proofs.Common.{◌∙◌, chars}
use Rattle.unicode_normalization.proofs.IterLemmas.{Spells-chars}
use Rattle.caseless.specs.Caseless.{default_case_fold}
use Rattle.slp_text.specs.Keys.{key_of}
use Rattle.slp_text.proofs.SqueezedTexts.{squeezed-done}
use Rattle.slp_text.proofs.folding.folded_text.Goals as goal

pub loop-c-init : goal.loop-c-init
unfolding key_of
loop-c-init c =
    let folds = c.default_case_fold-c-items.ensures.text _ (Spells-chars _ _ c.utf8.text c.chars.ensures.rest) in (
      default_case_fold (chars c.args.text.now),
      rw c.into_iter-c-iterator.ensures.into_iter_gives folds,
      c.new-squeezed.ensures (default_case_fold (chars c.args.text.now)),
    )

pub loop-c-preserved : goal.loop-c-preserved
loop-c-preserved c =
    let now = c.loop-c.invariant in
    let cut = c.in-Some.ensures.steps.first.at now.0 now.1 in
    let text = rw cut.1 at now.2 in
    (cut.0, cut.2, c.in_ok-push.ensures cut.0 ∙ text)

pub returns-clause-value : goal.returns-clause-value
returns-clause-value c =
    let now = c.loop-c.invariant in
    let ended = c.in-None.ensures.steps.first.at now.0 now.1 in
    squeezed-done _ _ _ _ (rw ended at now.2)
