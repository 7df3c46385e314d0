use Rattle.std.proofs.Common.{sym, ap₂, ◌∙◌, encode_utf8_all}
use Rattle.slp_text.specs.Keys.{key_of}
use Rattle.slp_text.specs.Words.{bytes_cmp}
use Rattle.text_patterns.proofs.comparing.compare.Goals as goal

pub loop-c-init : goal.loop-c-init
unfolding key_of
loop-c-init c = ap₂ (λ cs bs. bytes_cmp (encode_utf8_all cs) bs) (sym c.new-characters.ensures) (sym (c.as_bytes-rest.ensures.value ∙ c.as_str.ensures))
