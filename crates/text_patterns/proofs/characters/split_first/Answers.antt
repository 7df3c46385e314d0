use Rattle.std.proofs.Common.{◌++◌, sym, ap, ◌∙◌, encode_utf8, chars}
use Rattle.std.proofs.lemmas.List.{nil_from_length}
use Rattle.std.proofs.lemmas.Str.{chars_past_char, chars-nil}
use Rattle.text_patterns.proofs.characters.split_first.Goals as goal

pub returns-in_err-c : goal.returns-in_err-c
returns-in_err-c c = rw c.from_residual.ensures (ap chars (sym c.chars-characters.ensures.rest ∙ nil_from_length _ c.in_err-c.ensures.steps.0.0) ∙ chars-nil)

pub returns : goal.returns
returns c =
    chars_past_char _ _ c.in_ok-c.c c.utf8.text
    (sym c.chars-characters.ensures.rest ∙ c.in_ok-c.ensures.steps.0 ∙ ap (λ t. encode_utf8 c.in_ok-c.c ++ t) (sym c.as_str.ensures))
