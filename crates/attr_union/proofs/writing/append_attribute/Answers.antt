use Rattle.std.proofs.Common.{◌≡◌, [], length, refl, sym, subst, ap, ◌++◌, ◌∙◌}
use Rattle.std.specs.Prelude.{◌==◌, string_bytes}
use mathlib.Core.Bool.{true≢false}
use Rattle.std.proofs.lemmas.Result.{IfOk-weaker}
use Rattle.attr_list.specs.Texts.{attribute_text}
use Rattle.attr_list.proofs.JoinedElements.{held_some}
use Rattle.attr_list.specs.declared.held.Held.TheVariants as held
use Rattle.attr_union.specs.Rooms.{IsWrittenWithin}
use Rattle.attr_union.proofs.FirstValues.{written-within}
use Rattle.attr_union.proofs.writing.append_attribute.Goals as goal

pub returns : goal.returns
returns c =
    let some : (c.args.values.now ≡ [] → ⊥) = λ e. true≢false (sym (c.is_empty.ensures ∙ ap (λ vs. length vs == 0) e) ∙ c.if-is_empty.false) in
    IfOk-weaker c.append_valued.result _ _
    (λ u is. subst (λ h. IsWrittenWithin c.args.room (string_bytes c.args.out.now) (attribute_text c.args.tag.now h) (string_bytes c.append_valued.new.out)) (held_some c.args.values.now _ some refl)
    (written-within c.args.room (string_bytes c.args.out.now) (string_bytes c.append_valued.new.out) c.args.tag.now c.args.values.now is.0 is.1 (is.2 ∙ ap (λ t. string_bytes c.args.out.now ++ attribute_text t (held.Values is.0)) c.tag.view_is))) c.append_valued.ensures
