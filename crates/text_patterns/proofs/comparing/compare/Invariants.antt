use Rattle.std.proofs.Common.{◌≡◌, length, encode_utf8_all}
use Rattle.slp_text.specs.Keys.{key_of}
use Rattle.slp_text.specs.Words.{bytes_cmp}
use Rattle.text_patterns.specs.Characters.{characters_left}
use Rattle.text_patterns.proofs.comparing.compare.Given as goal

-- what is left of the key of the text stands to what is left of the key as the two do
abbrev pub invariant-loop-c : goal.invariant-loop-c
invariant-loop-c l = bytes_cmp (key_of l.fn.text) l.fn.key ≡ bytes_cmp (encode_utf8_all (characters_left l.characters)) l.rest

abbrev pub decreases-loop-c : goal.decreases-loop-c
decreases-loop-c l = length (characters_left l.characters)
