-- The characters of the key of a text, which come one at a time.
use Rattle.std.specs.Prelude.{ℕ, false, List, [], ◌∷◌, ◌++◌, Option, Some, None, chars}
use Rattle.std.specs.Option.{option_to_list}
use Rattle.caseless.specs.Caseless.{default_case_fold}
use Rattle.slp_text.specs.Keys.{squeezed_text}
use Rattle.slp_text.specs.Squeezing.{squeezed_left}
use Rattle.text_patterns.specs.declared.characters.KeyCharacters.{KeyCharacters}

-- the characters of the key of a text
abbrev pub key_characters : List ℕ → List ℕ
key_characters text = squeezed_text (default_case_fold (chars text))

-- what is left of the folded text
abbrev pub folded_left : KeyCharacters → List ℕ
folded_left k = k.folding.now ++ default_case_fold (chars k.rest.now)

-- what is left of the key
abbrev pub characters_left : KeyCharacters → List ℕ
characters_left k = option_to_list k.ahead ++ squeezed_left k.begun false (folded_left k)

-- the bytes of a text, where no character was put off and none is left of a folding
abbrev pub bytes_next : Option ℕ → List ℕ → List ℕ → List ℕ
bytes_next None [] text = text
bytes_next None (c ∷ cs) text = []
bytes_next (Some c) folding text = []

-- the bytes of the text that come next as they lie
abbrev pub plain_left : KeyCharacters → List ℕ
plain_left k = bytes_next k.ahead k.folding.now k.rest.now
