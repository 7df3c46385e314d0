use Rattle.std.proofs.Common.{◌≡◌, ℕ, List, ◌++◌, drop, encode_utf8}
use Rattle.slp_text.specs.Words.{bytes_cmp}
use Rattle.text_patterns.proofs.comparing.after_character.Given as goal

-- what is left of the character stands to what is left of the bytes as the whole does, whatever follows
abbrev pub invariant-loop-b : goal.invariant-loop-b
invariant-loop-b l = (more : List ℕ) → bytes_cmp (encode_utf8 l.fn.c ++ more) l.fn.bytes ≡ bytes_cmp (drop l.b-index l.b-items ++ more) l.rest
