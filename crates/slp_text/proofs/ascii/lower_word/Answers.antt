use Rattle.std.proofs.Common.{sym, ap, map, ◌∙◌}
use Rattle.std.specs.Char.{to_ascii_lowercase}
use Rattle.slp_text.proofs.AsciiKeys.{key-word}
use Rattle.slp_text.proofs.ascii.lower_word.Goals as goal

pub returns-clause-value : goal.returns-clause-value
returns-clause-value c = c.make_ascii_lowercase.ensures.bytes ∙ (ap (map to_ascii_lowercase) c.in_ok-lower.ensures.ok ∙ sym (key-word c.args.word.now c.requires))
