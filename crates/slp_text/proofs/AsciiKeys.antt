-- Keys of words of ASCII.
use Rattle.std.proofs.Common.{◌≡◌, ℕ, ◌<◌, true, false, List, [], ◌∷◌, ap, ap₂, ◌∙◌, refl, map, IsAscii, arith, encode_utf8_all}
use Rattle.std.specs.Char.{to_ascii_lowercase}
use Rattle.std.specs.List.{list_all}
use Rattle.std.proofs.lemmas.Bool.{and_parts}
use Rattle.std.proofs.lemmas.Bool.Decides.{nat_tests}
use Rattle.std.specs.Prelude.{◌++◌, length, take, IsUtf8}
use Rattle.std.proofs.lemmas.List.{length-map, map-append, take_at}
use Rattle.std.proofs.lemmas.Str.{chars-IsAscii, IsUtf8-from_ascii}
use Rattle.std.proofs.lemmas.Str.Ascii.{IsAscii-nil, IsAscii-cons, IsAscii-map, All-from_ascii, encodes-IsAscii}
use Rattle.caseless.specs.Caseless.{default_case_fold}
use Rattle.caseless.proofs.CaselessLemmas.{default_case_fold-ascii}
use Rattle.slp_text.specs.Keys.{is_not_capital, is_white, is_word_byte, squeezed_text, squeezed_rest, key_of}

below : (b : ℕ) → is_word_byte b ≡ true → b < 128
below b h = grind (arith, nat_tests)

lower : (b : ℕ) → b < 128 → to_ascii_lowercase b < 128
lower b h = grind (arith, nat_tests)

not_white : (b : ℕ) → is_word_byte b ≡ true → is_white (to_ascii_lowercase b) ≡ false
not_white b h = grind (arith, nat_tests)

pub is_ascii : (text : List ℕ) → list_all is_word_byte text ≡ true → IsAscii text
is_ascii [] h = IsAscii-nil
is_ascii (b ∷ bs) h =
    let both = and_parts (is_word_byte b) (list_all is_word_byte bs) h in
    IsAscii-cons b bs (below b both.0) (is_ascii bs both.1)

stays_from : (text : List ℕ) → list_all is_word_byte text ≡ true → squeezed_rest false (map to_ascii_lowercase text) ≡ map to_ascii_lowercase text
stays_from [] h = refl
stays_from (b ∷ bs) h =
    let both = and_parts (is_word_byte b) (list_all is_word_byte bs) h in
    rw (not_white b both.0) (ap (λ cs. to_ascii_lowercase b ∷ cs) (stays_from bs both.1))

stays : (text : List ℕ) → list_all is_word_byte text ≡ true → squeezed_text (map to_ascii_lowercase text) ≡ map to_ascii_lowercase text
stays [] h = refl
stays (b ∷ bs) h =
    let both = and_parts (is_word_byte b) (list_all is_word_byte bs) h in
    rw (not_white b both.0) (stays_from (b ∷ bs) h)

-- the key of a text of ASCII
key-ascii : (text : List ℕ) → IsAscii text → key_of text ≡ encode_utf8_all (squeezed_text (map to_ascii_lowercase text))
unfolding key_of
key-ascii text a =
    ap (λ cs. encode_utf8_all (squeezed_text (default_case_fold cs))) (chars-IsAscii text a)
    ∙ ap (λ cs. encode_utf8_all (squeezed_text cs)) (default_case_fold-ascii text (All-from_ascii text a))

-- the key of one without white space
pub key-word : (text : List ℕ) → list_all is_word_byte text ≡ true → key_of text ≡ map to_ascii_lowercase text
key-word text h =
    let a = is_ascii text h in
    key-ascii text a
    ∙ ap encode_utf8_all (stays text h)
    ∙ encodes-IsAscii (map to_ascii_lowercase text) (IsAscii-map to_ascii_lowercase text lower a)

pub word-utf8 : (text : List ℕ) → list_all is_word_byte text ≡ true → IsUtf8 text
word-utf8 text h = IsUtf8-from_ascii text (is_ascii text h)

pub lower-utf8 : (text : List ℕ) → list_all is_word_byte text ≡ true → IsUtf8 (map to_ascii_lowercase text)
lower-utf8 text h = IsUtf8-from_ascii (map to_ascii_lowercase text) (IsAscii-map to_ascii_lowercase text lower (is_ascii text h))

-- the front of bytes that are made lower, whatever stands behind it
pub lower-front : (word part rest all : List ℕ) → part ≡ word → all ≡ map to_ascii_lowercase (part ++ rest) → take (length word) all ≡ map to_ascii_lowercase word
lower-front word part rest all same is =
    ap (take (length word)) (is ∙ ap (λ p. map to_ascii_lowercase (p ++ rest)) same ∙ map-append to_ascii_lowercase word rest)
    ∙ take_at (map to_ascii_lowercase word) (map to_ascii_lowercase rest) (length word) (length-map word to_ascii_lowercase)

lower-same : (b : ℕ) → is_not_capital b ≡ true → to_ascii_lowercase b ≡ b
lower-same b h = grind (arith, nat_tests)

-- a text without capitals is its own lower case
pub lower-all_same : (text : List ℕ) → list_all is_not_capital text ≡ true → map to_ascii_lowercase text ≡ text
lower-all_same [] h = refl
lower-all_same (b ∷ bs) h =
    let both = and_parts (is_not_capital b) (list_all is_not_capital bs) h in
    ap₂ (λ c cs. c ∷ cs) (lower-same b both.0) (lower-all_same bs both.1)
