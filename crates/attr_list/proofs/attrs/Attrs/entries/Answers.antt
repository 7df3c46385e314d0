use Rattle.std.proofs.Common.{◌∙◌, ap, sym}
use Rattle.std.specs.FinMap as fin
use Rattle.attr_list.specs.Stored.{pairs_in}
use Rattle.attr_list.proofs.StoredAttributes.{entries-stored}
use Rattle.attr_list.proofs.attrs.Attrs.entries.Goals as goal

pub returns-clause-value : goal.returns-clause-value
returns-clause-value c = ap fin.entries (sym c.self.view_is) ∙ entries-stored _ c.self.invariant ∙ ap pairs_in (sym c.deref.ensures.value)
