use Rattle.std.proofs.Common.{take, ◌++◌, sym, ap, ◌∙◌}
use Rattle.std.proofs.lemmas.Fmt.{decimal_digit}
use Rattle.slp_replies.proofs.octets.put_digit.Goals as goal

pub returns-clause-text : goal.returns-clause-text
returns-clause-text c = c.put_byte.ensures.text ∙ ap (λ d. take c.args.at c.args.text.now ++ d) (sym (decimal_digit c.args.digit c.requires.digit))
