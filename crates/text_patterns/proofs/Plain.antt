-- Bytes of ASCII without white space at the front of a text.
use Rattle.std.proofs.Common.{◌≡◌, ℕ, ◌<◌, ◌≤◌, Bool, true, false, List, [], ◌∷◌, ◌++◌, length, map, take, drop, Option, Some, None, refl, sym, ap, ◌∙◌, arith, chars}
use Rattle.std.specs.Prelude.{IsUtf8}
use Rattle.std.specs.Char.{to_ascii_lowercase}
use Rattle.std.specs.List.{list_all}
use Rattle.std.specs.Option.{option_to_list}
use Rattle.std.specs.Str.{IsCharBoundary}
use Rattle.std.proofs.lemmas.List.{length-take-le, take-append-drop}
use Rattle.std.proofs.lemmas.Bool.{and_parts}
use Rattle.std.proofs.lemmas.Bool.Decides.{nat_tests}
use Rattle.std.proofs.lemmas.Str.{chars-append, chars-IsAscii, IsCharBoundary-from_take}
use Rattle.std.proofs.lemmas.Str.Ascii.{All-from_ascii}
use Rattle.caseless.specs.Caseless.{default_case_fold}
use Rattle.caseless.proofs.CaselessLemmas.{default_case_fold-append, default_case_fold-ascii}
use Rattle.slp_text.specs.Keys.{is_white, is_word_byte, squeezed_rest, squeezed_text}
use Rattle.slp_text.specs.Squeezing.{squeezed_left}
use Rattle.slp_text.proofs.AsciiKeys.{is_ascii, word-utf8}
use Rattle.text_patterns.specs.Characters.{bytes_next}

not_white : (b : ℕ) → is_word_byte b ≡ true → is_white (to_ascii_lowercase b) ≡ false
not_white b h = grind (arith, nat_tests)

stay-rest : (plain more : List ℕ) → list_all is_word_byte plain ≡ true → squeezed_rest false (map to_ascii_lowercase plain ++ more) ≡ map to_ascii_lowercase plain ++ squeezed_rest false more
stay-rest [] more h = refl
stay-rest (b ∷ bs) more h =
    let both = and_parts (is_word_byte b) (list_all is_word_byte bs) h in
    rw (not_white b both.0) (ap (λ cs. to_ascii_lowercase b ∷ cs) (stay-rest bs more both.1))

stay-first : (plain more : List ℕ) → list_all is_word_byte plain ≡ true → 0 < length plain → squeezed_text (map to_ascii_lowercase plain ++ more) ≡ map to_ascii_lowercase plain ++ squeezed_rest false more
stay-first [] more h some = absurd (omega (arith, some))
stay-first (b ∷ bs) more h some =
    let both = and_parts (is_word_byte b) (list_all is_word_byte bs) h in
    rw (not_white b both.0) (stay-rest (b ∷ bs) more h)

-- nothing is squeezed of them
stay : (begun : Bool) (plain more : List ℕ) → list_all is_word_byte plain ≡ true → 0 < length plain → squeezed_left begun false (map to_ascii_lowercase plain ++ more) ≡ map to_ascii_lowercase plain ++ squeezed_left true false more
stay false plain more h some = stay-first plain more h some
stay true plain more h some = stay-rest plain more h

-- they fold to their lower case, whatever follows
fold : (plain more : List ℕ) → list_all is_word_byte plain ≡ true → default_case_fold (chars (plain ++ more)) ≡ map to_ascii_lowercase plain ++ default_case_fold (chars more)
fold plain more h =
    let ascii = is_ascii plain h in
    ap default_case_fold (chars-append plain more (word-utf8 plain h) ∙ ap (λ cs. cs ++ chars more) (chars-IsAscii plain ascii))
    ∙ default_case_fold-append plain (chars more)
    ∙ ap (λ cs. cs ++ default_case_fold (chars more)) (default_case_fold-ascii plain (All-from_ascii plain ascii))

fold-front : (text : List ℕ) (n : ℕ) → list_all is_word_byte (take n text) ≡ true → default_case_fold (chars text) ≡ map to_ascii_lowercase (take n text) ++ default_case_fold (chars (drop n text))
fold-front text n h = ap (λ t. default_case_fold (chars t)) (sym (take-append-drop n text)) ∙ fold (take n text) (drop n text) h

front : (begun : Bool) (text : List ℕ) (n : ℕ) → n ≤ length text → list_all is_word_byte (take n text) ≡ true → 0 < n
    → squeezed_left begun false (default_case_fold (chars text)) ≡ map to_ascii_lowercase (take n text) ++ squeezed_left true false (default_case_fold (chars (drop n text)))
front begun text n within h some =
    ap (squeezed_left begun false) (fold-front text n h)
    ∙ stay begun (take n text) (default_case_fold (chars (drop n text))) h (omega (arith, length-take-le n text within))

-- what is left of a key, before so many of its bytes and behind them
pub left-behind : (begun : Bool) (ahead : Option ℕ) (folding text : List ℕ) (n : ℕ) → n ≤ length (bytes_next ahead folding text) → list_all is_word_byte (take n (bytes_next ahead folding text)) ≡ true → 0 < n
    → option_to_list ahead ++ squeezed_left begun false (folding ++ default_case_fold (chars text))
    ≡ map to_ascii_lowercase (take n (bytes_next ahead folding text)) ++ (option_to_list ahead ++ squeezed_left true false (folding ++ default_case_fold (chars (drop n text))))
left-behind begun None [] text n within h some = front begun text n within h some
left-behind begun None (c ∷ cs) text n within h some = absurd (omega (arith, within, some))
left-behind begun (Some c) folding text n within h some = absurd (omega (arith, within, some))

-- if there are any, they are those of the text
pub lie-bare : (ahead : Option ℕ) (folding text : List ℕ) (n : ℕ) → n ≤ length (bytes_next ahead folding text) → 0 < n → bytes_next ahead folding text ≡ text
lie-bare None [] text n within some = refl
lie-bare None (c ∷ cs) text n within some = absurd (omega (arith, within, some))
lie-bare (Some c) folding text n within some = absurd (omega (arith, within, some))

-- the text may be cut behind them
pub cut-behind : (text : List ℕ) (n : ℕ) → IsUtf8 text → n ≤ length text → list_all is_word_byte (take n text) ≡ true → IsCharBoundary text n
cut-behind text n utf8 within h = IsCharBoundary-from_take text n utf8 within (word-utf8 (take n text) h)
