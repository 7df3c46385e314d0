use Rattle.std.proofs.Common.{◌≡◌, ◌∙◌, ap, rules}
use Rattle.slp_tags.specs.Tags.{selects}
use Rattle.attr_list.specs.Stored.{attributes_stored, kept_stored}
use Rattle.attr_list.proofs.StoredAttributes.{kept-attributes}
use Rattle.attr_list.proofs.attrs.Attrs.select.Goals as goal

pub of-requires : goal.of-requires
of-requires c = c.in_ok-entries.ensures.stored c.entries.ensures.stored

pub returns-clause-value : goal.returns-clause-value
returns-clause-value c =
    let p = selects c.args.tags.now in
    let kept : c.in_ok-entries.entries.items ≡ kept_stored p c.entries.result.now = c.in_ok-entries.ensures.value p (λ tag r met. search rules) in
    c.of.ensures ∙ ap attributes_stored kept ∙ kept-attributes p c.args.self.now c.entries.result.now c.entries.ensures.stored c.entries.ensures.value
