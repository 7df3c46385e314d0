use Rattle.std.proofs.Common.{◌∙◌, ap, sym, refl}
use Rattle.std.specs.Option.{option_map}
use Rattle.std.specs.Prelude.{slice_get}
use Rattle.std.proofs.lemmas.Option.{slice_get_past, slice_get_read}
use Rattle.attr_list.specs.Stored.{pair_in}
use Rattle.attr_list.proofs.StoredAttributes.{at-stored}
use Rattle.attr_list.proofs.attrs.Attrs.at.Goals as goal

pub returns-in-Some : goal.returns-in-Some
returns-in-Some c =
    let found = c.in-Some.ensures.lookup in
    let there = slice_get_read c.deref.result.now _ c.args.place c.in-Some.entry.now refl found.3.0 found.1 in
    ap (option_map pair_in) (sym there ∙ ap (λ l. slice_get l c.args.place) c.deref.ensures.value) ∙ sym (at-stored _ c.args.self.now c.args.place c.self.invariant c.self.view_is)

pub returns-in-None : goal.returns-in-None
returns-in-None c =
    let past = slice_get_past c.deref.result.now c.args.place c.in-None.ensures.lookup.3 in
    ap (option_map pair_in) (sym past ∙ ap (λ l. slice_get l c.args.place) c.deref.ensures.value) ∙ sym (at-stored _ c.args.self.now c.args.place c.self.invariant c.self.view_is)
