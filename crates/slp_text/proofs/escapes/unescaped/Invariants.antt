use Rattle.std.proofs.Common.{◌≡◌, ℕ, List, ◌++◌, encode_utf8_all, chars}
use Rattle.std.specs.Prelude.{string_bytes}
use Rattle.std.specs.Str.Iter.{chars_rest}
use Rattle.slp_text.specs.Escapes.{is_escapable}
use Rattle.slp_text.specs.Reading.{read_map}
use Rattle.slp_text.specs.Steps.{is_refused_raw}
use Rattle.slp_text.specs.declared.escapes.Stage.TheVariants.{Plain}
use Rattle.slp_text.proofs.Readers.{Follows}
use Rattle.slp_text.proofs.EscapeReaders.{unescapes}
use Rattle.slp_text.proofs.escapes.unescaped.Given as goal

-- what is there and what is still to come are the text
abbrev pub invariant-loop-c : goal.invariant-loop-c
invariant-loop-c l =
    (cs : List ℕ) × (encode_utf8_all cs ≡ chars_rest l.c-iterator)
    × Follows (unescapes is_escapable (is_refused_raw l.fn.place)) (λ xs. string_bytes l.read ++ encode_utf8_all xs) l.stage cs (read_map encode_utf8_all (unescapes is_escapable (is_refused_raw l.fn.place) Plain (chars l.fn.text)))
