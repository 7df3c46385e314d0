use Rattle.std.proofs.Common.{ap, ◌∙◌}
use Rattle.slp_text.specs.Words.{bytes_eq}
use Rattle.slp_text.proofs.KeysOfKeys.{key_of-folded_text}
use Rattle.template_files.proofs.reading.is_word.Goals as goal

pub returns : goal.returns
returns c = c.eq.ensures ∙ ap (λ k. bytes_eq k c.args.word.now) (c.as_str.ensures ∙ c.in_ok-folded.ensures ∙ key_of-folded_text c.args.text.now)
