use Rattle.std.proofs.Common.{ap, subst, sym, ◌∙◌}
use Rattle.std.specs.Prelude.{IfSome}
use Rattle.std.specs.FinMap as fin
use Rattle.attr_list.specs.Maps.{kept_attributes}
use Rattle.slp_text.proofs.KeySets.{bytes_same}
use Rattle.search_filter.specs.Looks.{IsLook}
use Rattle.search_filter.proofs.looks.held_at.Goals as goal

pub returns-clause-held : goal.returns-clause-held
returns-clause-held g c = λ p answers.
    let kept = kept_attributes c.args.attributes.now p in
    let last : IsLook kept c.in-Some.look = subst (λ o. IfSome o (IsLook kept)) c.in-Some.is (c.requires.last p answers) in
    last ∙ ap (fin.get kept) (bytes_same c.in-Some.look.tag.now c.args.tag.now (sym c.if-eq.ensures))
