use Rattle.std.proofs.Common.{◌∙◌, ap, chars, sym, Ok}
use Rattle.slp_text.specs.Keys.{squeezed_text}
use Rattle.slp_text.specs.Reading.{read_map}
use Rattle.attr_values.proofs.Forms.{squeezed_chars, stays_squeezed}
use Rattle.attr_values.specs.Values.{value_of_form}
use Rattle.attr_operands.specs.Operands.{operand_of}
use Rattle.search_filter.proofs.ReadTexts.{reading-same}
use Rattle.search_filter.proofs.reading.spelled_operand.Goals as goal

pub operand_of_form-requires : goal.operand_of_form-requires
operand_of_form-requires c =
    let is = c.as_str-2.ensures.value ∙ c.in_ok-squeezed.ensures in
    stays_squeezed c.as_str-2.result.now (chars c.as_str.result.now) c.as_str-2.utf8 is

pub returns : goal.returns
returns c =
    let squeezed = squeezed_chars c.as_str-2.result.now (chars c.as_str.result.now) c.as_str-2.utf8 (c.as_str-2.ensures.value ∙ c.in_ok-squeezed.ensures) in
    reading-same c.operand_of_form.result _ _
    (ap (read_map (λ read. operand_of (value_of_form (squeezed_text read)))) c.in_ok-read.ensures ∙ ap (λ t. Ok (operand_of (value_of_form (squeezed_text (chars t))))) (sym c.as_str.ensures.value)
    ∙ ap (λ t. Ok (operand_of (value_of_form t))) (sym squeezed))
    c.operand_of_form.ensures
