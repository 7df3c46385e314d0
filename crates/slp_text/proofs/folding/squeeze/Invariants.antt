use Rattle.std.proofs.Common.{◌≡◌, ℕ, List, chars, encode_utf8_all}
use Rattle.std.specs.Prelude.{string_bytes}
use Rattle.std.specs.Str.Iter.{chars_rest}
use Rattle.slp_text.specs.Keys.{squeezed_text}
use Rattle.slp_text.specs.Squeezing.{squeezed_with}
use Rattle.slp_text.proofs.folding.squeeze.Given as goal

-- what is there and what is still to come are the squeezed text
abbrev pub invariant-loop-c : goal.invariant-loop-c
invariant-loop-c l =
    (cs : List ℕ) × (encode_utf8_all cs ≡ chars_rest l.c-iterator)
    × (squeezed_with l.squeezed.begun l.squeezed.gap (string_bytes l.squeezed.text) cs ≡ encode_utf8_all (squeezed_text (chars l.fn.text)))
