use Rattle.std.proofs.Common.{◌≡◌, ◌∙◌, ℕ, Bool, List, ap, rules}
use Rattle.std.specs.Prelude.{not}
use Rattle.slp_tags.specs.Tags.{selects}
use Rattle.attr_list.specs.Stored.{attributes_stored, kept_stored}
use Rattle.attr_list.proofs.StoredAttributes.{kept-attributes}
use Rattle.attr_list.proofs.attrs.Attrs.without.Goals as goal

pub of-requires : goal.of-requires
of-requires c = c.in_ok-entries.ensures.stored c.entries.ensures.stored

pub returns-clause-value : goal.returns-clause-value
returns-clause-value c =
    let p : List ℕ → Bool = λ tag. not (selects c.args.tags.now tag) in
    let kept : c.in_ok-entries.entries.items ≡ kept_stored p c.entries.result.now = c.in_ok-entries.ensures.value p (λ tag r met. search rules) in
    c.of.ensures ∙ ap attributes_stored kept ∙ kept-attributes p c.args.self.now c.entries.result.now c.entries.ensures.stored c.entries.ensures.value
