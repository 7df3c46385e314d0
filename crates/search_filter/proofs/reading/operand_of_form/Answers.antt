use Rattle.std.proofs.Common.{◌∙◌, ap, refl, sym, rules, Ok}
use Rattle.std.proofs.lemmas.Int.{to_z-of_z}
use mir.Syntax.{w32}
use Rattle.attr_values.proofs.Forms.{form_is}
use Rattle.attr_operands.specs.Operands.{operand_of}
use Rattle.attr_operands.specs.declared.operand.Operand.TheVariants as operand
use Rattle.search_filter.proofs.reading.operand_of_form.Goals as goal

pub returns-then-eq : goal.returns-then-eq
returns-then-eq c =
    ap (λ v. Ok (operand_of v)) (form_is c.args.text.now c.as_str-word.result.now _ _ _ c.utf8.text (c.as_str-word.ensures ∙ c.in_ok-folded.ensures.value) (sym c.eq.ensures ∙ c.if-eq.true) refl refl)

pub returns-then-eq-2 : goal.returns-then-eq-2
returns-then-eq-2 c =
    ap (λ v. Ok (operand_of v)) (form_is c.args.text.now c.as_str-word.result.now _ _ _ c.utf8.text (c.as_str-word.ensures ∙ c.in_ok-folded.ensures.value) (sym c.eq.ensures ∙ c.if-eq.false)
    (sym c.eq-2.ensures ∙ c.if-eq-2.true) refl)

pub returns-in-Some : goal.returns-in-Some
returns-in-Some c =
    ap (λ v. Ok (operand_of v)) (form_is c.args.text.now c.as_str-word.result.now _ _ _ c.utf8.text (c.as_str-word.ensures ∙ c.in_ok-folded.ensures.value) (sym c.eq.ensures ∙ c.if-eq.false)
    (sym c.eq-2.ensures ∙ c.if-eq-2.false) (sym c.in-Some.ensures))
    ∙ ap (λ n. Ok (operand.Int n)) (sym (to_z-of_z w32 c.in-Some.number (search rules)))

pub returns-in-None : goal.returns-in-None
returns-in-None c =
    ap (λ v. Ok (operand_of v)) (form_is c.args.text.now c.as_str-word.result.now _ _ _ c.utf8.text (c.as_str-word.ensures ∙ c.in_ok-folded.ensures.value) (sym c.eq.ensures ∙ c.if-eq.false)
    (sym c.eq-2.ensures ∙ c.if-eq-2.false) (sym c.in-None.ensures))
    ∙ ap (λ k. Ok (operand.Text k)) (sym c.in_ok-folded.ensures.value)
