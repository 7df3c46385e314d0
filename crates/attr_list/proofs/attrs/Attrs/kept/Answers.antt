use Rattle.std.proofs.Common.{◌∙◌, ap}
use Rattle.attr_list.specs.Stored.{attributes_stored}
use Rattle.attr_list.proofs.StoredAttributes.{kept-attributes}
use Rattle.attr_list.proofs.attrs.Attrs.kept.Goals as goal

pub of-requires : goal.of-requires
of-requires g c = c.in_ok-entries.ensures.stored c.entries.ensures.stored

pub returns-clause-value : goal.returns-clause-value
returns-clause-value g c = λ p answers.
    c.of.ensures ∙ ap attributes_stored (c.in_ok-entries.ensures.value p answers) ∙ kept-attributes p c.args.self.now c.entries.result.now c.entries.ensures.stored c.entries.ensures.value
