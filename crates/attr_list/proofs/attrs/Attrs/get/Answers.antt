use Rattle.std.proofs.Common.{sym, ap, ◌∙◌}
use Rattle.std.specs.FinMap as fin
use Rattle.slp_text.specs.Words.{bytes_cmp}
use Rattle.attr_list.specs.Stored.{pairs_in}
use Rattle.attr_list.proofs.attrs.Attrs.get.Goals as goal

pub returns : goal.returns
returns c =
    let stored = c.deref.ensures.value in
    rw (← c.self.view_is) (c.found.ensures ∙ ap (λ l. fin.find bytes_cmp c.args.tag.now (pairs_in l)) stored ∙ sym (fin.get-from_sorted bytes_cmp (pairs_in c.self.inside.entries.items) c.args.tag.now c.self.invariant.sorted))
