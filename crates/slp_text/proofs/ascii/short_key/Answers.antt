use Rattle.std.proofs.Common.{sym, ◌∙◌}
use Rattle.slp_text.proofs.AsciiKeys.{key-word, lower-all_same}
use Rattle.slp_text.proofs.ascii.short_key.Goals as goal

pub returns-then-is_lower : goal.returns-then-is_lower
returns-then-is_lower c =
    let word = c.args.word.now in
    c.key_in_place.ensures ∙ sym (key-word word c.requires.word ∙ lower-all_same word (sym c.is_lower.ensures ∙ c.if-is_lower.true))
