use Rattle.std.proofs.Common.{◌+◌, ◌||◌, sym, ap, ap₂, ◌∙◌, map, take, refl, take_all}
use Rattle.std.specs.List.{list_any}
use Rattle.std.proofs.lemmas.List.Folds.{list_any_more}
use Rattle.std.proofs.lemmas.Result.{err_from_is_err_and}
use Rattle.slp_tags.specs.Tags.{is_match}
use Rattle.slp_tags.proofs.Matches.{any-map}
use Rattle.slp_tags.proofs.tag_index.TagIndex.of.Goals as goal

pub loop-part-init : goal.loop-part-init
loop-part-init c = λ tag. rw (c.new.ensures.empty, c.new-2.ensures.items) refl

pub loop-part-preserved : goal.loop-part-preserved
loop-part-preserved c = λ tag.
    let parts = c.args.parts.now in
    let i = c.loop-part.part-index in
    let before = c.loop-part.invariant tag ∙ any-map (λ p. p.items) (λ part. is_match part tag) (take i parts) in
    let one = ap (λ part. is_match part tag) (c.as_slice.ensures.value ∙ ap (λ p. p.items) c.part-item.is) in
    c.in_ok-add.ensures tag ∙ ap₂ ◌||◌ before one ∙ sym (list_any_more (λ p. is_match p.items tag) parts i c.part-item.result c.loop-part-test.true)
    ∙ sym (any-map (λ p. p.items) (λ part. is_match part tag) (take (i + 1) parts))

pub returns-in_err-add : goal.returns-in_err-add
returns-in_err-add c = let p = err_from_is_err_and c.from_residual.result c.from_residual.ensures.1 in rw p.1 tt

pub returns : goal.returns
returns c = λ tag. c.loop-part.invariant tag ∙ ap (λ ps. list_any (λ part. is_match part tag) (map (λ p. p.items) ps)) (take_all c.loop-part.part-index c.args.parts.now c.loop-part-test.false)
