use Rattle.std.proofs.Common.{◌<◌, length, sym, ap, ◌∙◌, arith}
use Rattle.std.proofs.lemmas.Grind.{common_steps}
use Rattle.slp_tags.specs.TagIndexes.{is_found}
use Rattle.slp_tags.specs.Tags.{selects, is_match}
use Rattle.slp_tags.proofs.Matches.{any-map, selects-any}
use Rattle.slp_tags.proofs.tags.TagList.selects.Goals as goal

pub returns-else-is_empty : goal.returns-else-is_empty
returns-else-is_empty c =
    let k = c.if-is_empty.false in
    let m = c.is_empty.ensures in
    let tag = c.args.tag.now in
    let parts = c.self.inside.parts.items in
    let some : 0 < length parts = grind (arith, common_steps) in
    c.has.ensures ∙ ap (is_found c.self.inside.index) (c.as_bytes.ensures.value ∙ c.as_str.ensures) ∙ c.self.invariant tag
    ∙ any-map (λ p. p.items) (λ part. is_match part tag) parts ∙ sym (selects-any (λ p. p.items) parts tag some) ∙ ap (λ ps. selects ps tag) c.self.view_is
