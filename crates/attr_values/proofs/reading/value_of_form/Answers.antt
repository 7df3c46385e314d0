use Rattle.std.proofs.Common.{◌∙◌, ap, refl, sym, rules, chars}
use Rattle.std.specs.Prelude.{string_bytes}
use Rattle.std.proofs.lemmas.Str.{IsUtf8-string_bytes}
use Rattle.std.proofs.lemmas.Int.{to_z-of_z}
use mir.Syntax.{w32}
use Rattle.slp_text.specs.Keys.{key_of}
use Rattle.attr_values.specs.Values.{integer_of}
use Rattle.attr_values.proofs.Forms.{form_is}
use Rattle.attr_values.specs.declared.value.Value.TheVariants as value
use Rattle.attr_values.proofs.reading.value_of_form.Goals as goal

pub returns-then-eq-clause-value : goal.returns-then-eq-clause-value
returns-then-eq-clause-value c =
    let text = string_bytes c.args.text in
    sym (form_is text c.as_str-word.result.now _ _ _ (IsUtf8-string_bytes c.args.text) (c.as_str-word.ensures ∙ c.in-Ok.ensures.value ∙ ap key_of c.as_str.ensures.value)
    (sym c.eq.ensures ∙ c.if-eq.true) refl refl)

pub returns-then-eq-2-clause-value : goal.returns-then-eq-2-clause-value
returns-then-eq-2-clause-value c =
    let text = string_bytes c.args.text in
    sym (form_is text c.as_str-word.result.now _ _ _ (IsUtf8-string_bytes c.args.text) (c.as_str-word.ensures ∙ c.in-Ok.ensures.value ∙ ap key_of c.as_str.ensures.value)
    (sym c.eq.ensures ∙ c.if-eq.false) (sym c.eq-2.ensures ∙ c.if-eq-2.true) refl)

pub returns-in-Some-clause-value : goal.returns-in-Some-clause-value
returns-in-Some-clause-value c =
    let text = string_bytes c.args.text in
    let is =
    form_is text c.as_str-word.result.now _ _ _ (IsUtf8-string_bytes c.args.text) (c.as_str-word.ensures ∙ c.in-Ok.ensures.value ∙ ap key_of c.as_str.ensures.value)
    (sym c.eq.ensures ∙ c.if-eq.false) (sym c.eq-2.ensures ∙ c.if-eq-2.false) (ap (λ t. integer_of (chars t)) (sym c.as_str-2.ensures.value) ∙ sym c.in-Some.ensures) in
    ap value.Int (to_z-of_z w32 c.in-Some.number (search rules)) ∙ sym is

pub returns-in-None-clause-value : goal.returns-in-None-clause-value
returns-in-None-clause-value c =
    let text = string_bytes c.args.text in
    let is =
    form_is text c.as_str-word.result.now _ _ _ (IsUtf8-string_bytes c.args.text) (c.as_str-word.ensures ∙ c.in-Ok.ensures.value ∙ ap key_of c.as_str.ensures.value)
    (sym c.eq.ensures ∙ c.if-eq.false) (sym c.eq-2.ensures ∙ c.if-eq-2.false) (ap (λ t. integer_of (chars t)) (sym c.as_str-2.ensures.value) ∙ sym c.in-None.ensures) in
    ap value.Text c.wrap.ensures ∙ sym is

pub returns-in-None-clause-kind : goal.returns-in-None-clause-kind
returns-in-None-clause-kind c =
    let text = string_bytes c.args.text in
    let is =
    form_is text c.as_str-word.result.now _ _ _ (IsUtf8-string_bytes c.args.text) (c.as_str-word.ensures ∙ c.in-Ok.ensures.value ∙ ap key_of c.as_str.ensures.value)
    (sym c.eq.ensures ∙ c.if-eq.false) (sym c.eq-2.ensures ∙ c.if-eq-2.false) (ap (λ t. integer_of (chars t)) (sym c.as_str-2.ensures.value) ∙ sym c.in-None.ensures) in
    rw c.wrap.ensures (record { utf8 = IsUtf8-string_bytes c.args.text; squeezed = c.requires; is_text = is })
