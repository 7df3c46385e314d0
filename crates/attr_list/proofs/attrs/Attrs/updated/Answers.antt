use Rattle.std.proofs.Common.{◌∙◌, ap, sym, subst}
use Rattle.attr_list.specs.Stored.{attributes_stored, AreStored}
use Rattle.attr_list.proofs.Merged.{merged-attributes, merged-stored}
use Rattle.attr_list.proofs.attrs.Attrs.updated.Goals as goal

pub of-requires : goal.of-requires
of-requires c = subst AreStored (sym c.in_ok-entries.ensures) (merged-stored c.entries.result.now c.entries-2.result.now c.entries.ensures.stored c.entries-2.ensures.stored)

pub returns-clause-value : goal.returns-clause-value
returns-clause-value c =
    c.of.ensures ∙ ap attributes_stored c.in_ok-entries.ensures
    ∙ merged-attributes c.args.self.now c.args.more.now c.entries.result.now c.entries-2.result.now c.entries.ensures.stored c.entries-2.ensures.stored c.entries.ensures.value c.entries-2.ensures.value
