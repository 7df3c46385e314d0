use Rattle.std.proofs.Common.{sym, ◌∙◌, arith}
use Rattle.std.proofs.lemmas.Str.Pattern.{starts_char}
use Rattle.slp_text.specs.Ascii.{plus_sign}
use Rattle.attr_values.proofs.Integers.{parsed, plus_none}
use Rattle.attr_values.proofs.integer.integer_of.Goals as goal

pub returns : goal.returns
returns c =
    let begins = starts_char plus_sign c.args.text.now c.starts_with.result c.starts_with.ensures.cases (omega arith) (omega arith) in
    c.ok.ensures.value ∙ parsed c.args.text.now c.parse.result c.utf8.text c.parse.ensures.value.0 (λ e. let t = begins.1 e in let f = c.if-starts_with.false in cc)

pub returns-then-starts_with : goal.returns-then-starts_with
returns-then-starts_with c =
    let begins = starts_char plus_sign c.args.text.now c.starts_with.result c.starts_with.ensures.cases (omega arith) (omega arith) in
    sym (plus_none c.args.text.now c.utf8.text (begins.0 c.if-starts_with.true))
