-- Values that are written are read again.
use Rattle.std.proofs.Common.{◌≡◌, ℕ, ◌+◌, ◌*◌, ◌<◌, Bool, true, false, cond, List, [], ◌∷◌, ◌++◌, map, Some, None, Ok, refl, sym, ap, ap₂, subst, ◌∙◌, chars, encode_utf8_all, arith, IsAscii}
use Rattle.std.specs.Prelude.{◌/◌, ◌%◌, ◌&&◌, ◌||◌, ◌==◌, codes, flat_map, reverse, ℤ, pos, negsuc, suc}
use Rattle.std.specs.Char.{to_ascii_lowercase}
use Rattle.std.specs.Fmt.{decimal, signed_decimal}
use Rattle.std.specs.List.{AllByRecursion, list_all}
use Rattle.std.specs.Option.{option_map_or}
use Rattle.std.specs.Str as std_str
use Rattle.std.proofs.lemmas.Bool.{and_parts}
use Rattle.std.proofs.lemmas.Bool.Decides.{nat_tests}
use Rattle.std.proofs.lemmas.Grind.{reverse_onto}
use Rattle.std.proofs.lemmas.List.{reverse-append, reverse-reverse}
use Rattle.std.proofs.lemmas.Str.{chars-encodes, chars-IsAscii, IsUtf8-from_ascii, scalars-chars}
use Rattle.std.proofs.lemmas.Str.Ascii.{IsAscii-nil, IsAscii-cons}
use lib.Utf8.{scalar, scalars}
use Rattle.caseless.proofs.Computing.{caseless}
use Rattle.slp_text.specs.Ascii.{backslash, hyphen, is_digit}
use Rattle.slp_text.specs.Escapes.{capital_digit, escaped_text, is_refused, is_reserved, unescaped_text_at, written_character}
use Rattle.slp_text.specs.Keys.{is_white, is_word_byte, key_of, squeezed_rest, squeezed_text, trim_start, trimmed_text}
use Rattle.slp_text.specs.Reading.{read_map}
use Rattle.slp_text.specs.Words.{bytes_eq}
use Rattle.slp_text.specs.declared.escapes.Place.TheVariants as place
use Rattle.slp_text.proofs.AsciiKeys.{key-word}
use Rattle.slp_text.proofs.EscapedTexts.{digit-capital, escapable_small, read_again, refused_free, reserved_escapable, append-scalars, digit-scalar}
use Rattle.attr_values.specs.Kinds.{IsNumber, IsTextValue, IsValue}
use Rattle.attr_values.specs.Values.{escaped_byte, integer_of, is_f, opaque_bytes, opaque_rest, value_by, value_of, value_of_form, value_text}
use Rattle.attr_values.specs.declared.value.Value.{Value}
use Rattle.attr_values.specs.declared.value.Value.TheVariants as value
use Rattle.attr_values.proofs.Forms.{form_is}
use Rattle.attr_values.proofs.Integers.{AreDigits, digits_of_decimal, integer-written}

-- ---- what is not opaque

abbrev begins_opaque : List ℕ → Bool
begins_opaque [] = false
begins_opaque (b ∷ []) = false
begins_opaque (b ∷ f ∷ cs) = b == backslash && is_f f

-- nowhere a backslash with an F
abbrev LacksF : List ℕ → Type 0
LacksF [] = Unit {0}
LacksF (c ∷ cs) = (begins_opaque (c ∷ cs) ≡ false) × LacksF cs

none_opaque : (cs : List ℕ) → begins_opaque cs ≡ false → opaque_rest cs ≡ None
none_opaque [] h = refl
none_opaque (b ∷ []) h = refl
none_opaque (b ∷ f ∷ []) h = refl
none_opaque (b ∷ f ∷ g ∷ cs) h = rw h refl

start_keeps : (cs : List ℕ) → LacksF cs → begins_opaque (trim_start cs) ≡ false
start_keeps [] h = refl
start_keeps (c ∷ cs) h =
    elim (is_white c) as (λ w. begins_opaque (cond w (trim_start cs) (c ∷ cs)) ≡ false) [
      | true ↦ start_keeps cs h.1
      | false ↦ h.0
    ]

front_keeps : (front back : List ℕ) → begins_opaque (front ++ back) ≡ false → begins_opaque front ≡ false
front_keeps [] back h = refl
front_keeps (b ∷ []) back h = refl
front_keeps (b ∷ f ∷ cs) back h = h

start_front : (cs : List ℕ) → (ws : List ℕ) × (cs ≡ ws ++ trim_start cs)
start_front [] = ([], refl)
start_front (c ∷ cs) =
    elim (is_white c) as (λ w. (ws : List ℕ) × (c ∷ cs ≡ ws ++ cond w (trim_start cs) (c ∷ cs))) [
      | true ↦ let rest = start_front cs in (c ∷ rest.0, ap (λ xs. c ∷ xs) rest.1)
      | false ↦ ([], refl)
    ]

trimmed_opaque : (cs : List ℕ) → LacksF cs → opaque_rest (trimmed_text cs) ≡ None
trimmed_opaque cs h =
    let xs = trim_start cs in
    let cut = start_front (reverse xs) in
    let whole : xs ≡ reverse (trim_start (reverse xs)) ++ reverse cut.0 = sym (reverse-reverse xs) ∙ ap reverse cut.1 ∙ reverse-append cut.0 (trim_start (reverse xs)) in
    none_opaque (trimmed_text cs) (front_keeps (trimmed_text cs) (reverse cut.0) (ap begins_opaque (sym whole) ∙ start_keeps cs h))

not_slash : (c : ℕ) (cs : List ℕ) → (c == backslash) ≡ false → begins_opaque (c ∷ cs) ≡ false
not_slash c [] h = refl
not_slash c (d ∷ cs) h = rw h refl

digit-not_slash : (d : ℕ) → d < 16 → (capital_digit d == backslash) ≡ false
digit-not_slash d h = grind (arith, nat_tests)

digit-not_f : (d : ℕ) → d < 8 → is_f (capital_digit d) ≡ false
digit-not_f d h = grind (arith, nat_tests)

raw-not_slash : (c : ℕ) → is_reserved place.Value c ≡ false → (c == backslash) ≡ false
raw-not_slash c h = grind (arith, nat_tests)

written_lacks : (c : ℕ) (rest : List ℕ) → LacksF rest → LacksF (written_character place.Value c ++ rest)
written_lacks c rest h =
    elim (is_reserved place.Value c) as (λ b. is_reserved place.Value c ≡ b → LacksF (cond b (backslash ∷ capital_digit (c / 16) ∷ capital_digit (c % 16) ∷ []) (c ∷ []) ++ rest)) [
      | true ↦ λ t.
          let small = escapable_small c (reserved_escapable place.Value c t) in
          let high : c / 16 < 8 = omega (arith, small) in
          let wide : c / 16 < 16 = omega (arith, high) in
          let low : c % 16 < 16 = omega arith in
          (digit-not_f (c / 16) high, (not_slash (capital_digit (c / 16)) (capital_digit (c % 16) ∷ rest) (digit-not_slash (c / 16) wide), (not_slash (capital_digit (c % 16)) rest (digit-not_slash (c % 16) low), h)))
      | false ↦ λ f. (not_slash c rest (raw-not_slash c f), h)
    ] refl

escaped_lacks : (cs : List ℕ) → LacksF (escaped_text place.Value cs)
escaped_lacks [] = tt
escaped_lacks (c ∷ cs) = written_lacks c (escaped_text place.Value cs) (escaped_lacks cs)

-- what is escaped and squeezed is read as what it is by its form
spelled_again : (cs : List ℕ) (v : Value) → squeezed_text cs ≡ cs → value_of_form cs ≡ v → value_of (escaped_text place.Value cs) ≡ Ok v
spelled_again cs v s f =
    let xs = escaped_text place.Value cs in
    ap (λ o. option_map_or (λ rest. value_by value.Opaque (opaque_bytes rest)) o (value_by (λ read. value_of_form (squeezed_text read)) (unescaped_text_at place.Value xs))) (trimmed_opaque xs (escaped_lacks cs))
    ∙ ap (value_by (λ read. value_of_form (squeezed_text read))) (read_again place.Value (is_refused place.Value) (refused_free place.Value) cs)
    ∙ ap (λ read. Ok (value_of_form read)) s
    ∙ ap Ok f

-- ---- texts

written_scalars : (c : ℕ) → scalar c ≡ true → scalars (written_character place.Value c) ≡ true
written_scalars c s =
    elim (is_reserved place.Value c) as (λ b. is_reserved place.Value c ≡ b → scalars (cond b (backslash ∷ capital_digit (c / 16) ∷ capital_digit (c % 16) ∷ []) (c ∷ [])) ≡ true) [
      | true ↦ λ t.
          let small = escapable_small c (reserved_escapable place.Value c t) in
          let high : c / 16 < 16 = omega (arith, small) in
          let low : c % 16 < 16 = omega arith in
          rw (digit-scalar (c / 16) high, digit-scalar (c % 16) low) refl
      | false ↦ λ f. rw s refl
    ] refl

escaped_scalars : (cs : List ℕ) → scalars cs ≡ true → scalars (escaped_text place.Value cs) ≡ true
escaped_scalars [] s = refl
escaped_scalars (c ∷ cs) s =
    let both = and_parts (scalar c) (scalars cs) s in
    append-scalars (written_character place.Value c) (escaped_text place.Value cs) (written_scalars c both.0) (escaped_scalars cs both.1)

text_again : (t : List ℕ) → IsTextValue t → value_of (chars (encode_utf8_all (escaped_text place.Value (chars t)))) ≡ Ok (value.Text t)
text_again t is =
    ap value_of (chars-encodes (escaped_text place.Value (chars t)) (escaped_scalars (chars t) (scalars-chars t is.utf8)))
    ∙ spelled_again (chars t) (value.Text t) is.squeezed is.is_text

-- ---- numbers

abbrev is_numeral : ℕ → Bool
is_numeral c = is_digit c || c == hyphen

numeral-raw : (c : ℕ) → is_numeral c ≡ true → is_reserved place.Value c ≡ false
numeral-raw c h = grind (arith, nat_tests)

numeral-not_white : (c : ℕ) → is_numeral c ≡ true → is_white c ≡ false
numeral-not_white c h = grind (arith, nat_tests)

numeral-low : (c : ℕ) → is_numeral c ≡ true → c < 128
numeral-low c h = grind (arith, nat_tests)

numeral-word : (c : ℕ) → is_numeral c ≡ true → is_word_byte c ≡ true
numeral-word c h = grind (arith, nat_tests)

numeral-lower : (c : ℕ) → is_numeral c ≡ true → to_ascii_lowercase c ≡ c
numeral-lower c h = grind (arith, nat_tests)

numeral-no_letter : (c d : ℕ) → is_numeral c ≡ true → 97 < d → (c == d) ≡ false
numeral-no_letter c d h k = grind (arith, nat_tests)

digit-numeral : (c : ℕ) → is_digit c ≡ true → is_numeral c ≡ true
digit-numeral c h = rw h refl

abbrev AreNumerals : List ℕ → Type 0
AreNumerals cs = list_all is_numeral cs ≡ true

digits-numerals : (cs : List ℕ) → AreDigits cs → AreNumerals cs
digits-numerals [] h = refl
digits-numerals (c ∷ cs) h = let both = and_parts (is_digit c) (list_all is_digit cs) h in ap₂ (λ a b. a && b) (digit-numeral c both.0) (digits-numerals cs both.1)

numerals-raw : (cs : List ℕ) → AreNumerals cs → escaped_text place.Value cs ≡ cs
numerals-raw [] h = refl
numerals-raw (c ∷ cs) h = let both = and_parts (is_numeral c) (list_all is_numeral cs) h in rw (numeral-raw c both.0) (ap (λ xs. c ∷ xs) (numerals-raw cs both.1))

numerals-rest : (cs : List ℕ) → AreNumerals cs → squeezed_rest false cs ≡ cs
numerals-rest [] h = refl
numerals-rest (c ∷ cs) h = let both = and_parts (is_numeral c) (list_all is_numeral cs) h in rw (numeral-not_white c both.0) (ap (λ xs. c ∷ xs) (numerals-rest cs both.1))

numerals-squeezed : (cs : List ℕ) → AreNumerals cs → squeezed_text cs ≡ cs
numerals-squeezed [] h = refl
numerals-squeezed (c ∷ cs) h = let both = and_parts (is_numeral c) (list_all is_numeral cs) h in rw (numeral-not_white c both.0) (numerals-rest (c ∷ cs) h)

numerals-ascii : (cs : List ℕ) → AreNumerals cs → IsAscii cs
numerals-ascii [] h = IsAscii-nil
numerals-ascii (c ∷ cs) h = let both = and_parts (is_numeral c) (list_all is_numeral cs) h in IsAscii-cons c cs (numeral-low c both.0) (numerals-ascii cs both.1)

numerals-words : (cs : List ℕ) → AreNumerals cs → list_all is_word_byte cs ≡ true
numerals-words [] h = refl
numerals-words (c ∷ cs) h = let both = and_parts (is_numeral c) (list_all is_numeral cs) h in ap₂ (λ a b. a && b) (numeral-word c both.0) (numerals-words cs both.1)

numerals-lower : (cs : List ℕ) → AreNumerals cs → map to_ascii_lowercase cs ≡ cs
numerals-lower [] h = refl
numerals-lower (c ∷ cs) h = let both = and_parts (is_numeral c) (list_all is_numeral cs) h in ap₂ (λ x xs. x ∷ xs) (numeral-lower c both.0) (numerals-lower cs both.1)

no_word : (cs word : List ℕ) (d : ℕ) → AreNumerals cs → 97 < d → bytes_eq cs (d ∷ word) ≡ false
no_word [] word d h k = refl
no_word (c ∷ cs) word d h k = rw (numeral-no_letter c d (and_parts (is_numeral c) (list_all is_numeral cs) h).0 k) refl

numerals_again : (cs : List ℕ) (z : ℤ) → AreNumerals cs → integer_of cs ≡ Some z → value_of (chars cs) ≡ Ok (value.Int z)
numerals_again cs z h is =
    let ascii = numerals-ascii cs h in
    let same = chars-IsAscii cs ascii in
    let key : cs ≡ key_of cs = sym (key-word cs (numerals-words cs h) ∙ numerals-lower cs h) in
    let form = form_is cs cs false false (Some z) (IsUtf8-from_ascii cs ascii) key (no_word cs (codes "rue") 116 h (omega arith)) (no_word cs (codes "alse") 102 h (omega arith)) (ap integer_of same ∙ is) in
    ap value_of (same ∙ sym (numerals-raw cs h)) ∙ spelled_again cs (value.Int z) (numerals-squeezed cs h) (ap value_of_form (sym same) ∙ form)

numerals-written : (z : ℤ) → IsNumber z → AreNumerals (signed_decimal z)
numerals-written (pos n) h = digits-numerals (decimal n) (digits_of_decimal n (omega (arith, h)))
numerals-written (negsuc n) h = digits-numerals (decimal (suc n)) (digits_of_decimal (suc n) (omega (arith, h)))

-- ---- opaque bytes

abbrev IsDark : ℕ → Type 0
IsDark c = (is_white c ≡ false) × (c < 128)

digit-dark : (d : ℕ) → d < 16 → IsDark (capital_digit d)
digit-dark d h = (grind (arith, nat_tests), grind (arith, nat_tests))

bytes-dark : (bytes : List ℕ) → AllByRecursion (λ b. b < 256) bytes → AllByRecursion IsDark (flat_map escaped_byte bytes)
bytes-dark [] h = tt
bytes-dark (b ∷ bytes) h =
    let small = h.0 in
    ((refl, omega arith), (digit-dark (b / 16) (omega (arith, small)), (digit-dark (b % 16) (omega arith), bytes-dark bytes h.1)))

dark-ascii : (cs : List ℕ) → AllByRecursion IsDark cs → IsAscii cs
dark-ascii [] h = IsAscii-nil
dark-ascii (c ∷ cs) h = IsAscii-cons c cs h.0.1 (dark-ascii cs h.1)

dark_start : (cs : List ℕ) → AllByRecursion IsDark cs → trim_start cs ≡ cs
dark_start [] h = refl
dark_start (c ∷ cs) h = rw h.0.0 refl

dark_more : (cs : List ℕ) (c : ℕ) → AllByRecursion IsDark cs → IsDark c → AllByRecursion IsDark (cs ++ c ∷ [])
dark_more [] c h d = (d, tt)
dark_more (x ∷ cs) c h d = (h.0, dark_more cs c h.1 d)

dark_reversed : (cs : List ℕ) → AllByRecursion IsDark cs → AllByRecursion IsDark (reverse cs)
dark_reversed [] h = tt
dark_reversed (c ∷ cs) h = subst (AllByRecursion IsDark) (sym (reverse_onto cs c [])) (dark_more (reverse cs) c (dark_reversed cs h.1) h.0)

dark_trimmed : (cs : List ℕ) → AllByRecursion IsDark cs → trimmed_text cs ≡ cs
dark_trimmed cs h =
    ap (λ xs. reverse (trim_start (reverse xs))) (dark_start cs h) ∙ ap reverse (dark_start (reverse cs) (dark_reversed cs h)) ∙ reverse-reverse cs

one_byte : (b : ℕ) (rest bytes : List ℕ) → b < 256 → opaque_bytes rest ≡ Ok bytes → opaque_bytes (escaped_byte b ++ rest) ≡ Ok (b ∷ bytes)
one_byte b rest bytes h is =
    let high : b / 16 < 16 = omega (arith, h) in
    let low : b % 16 < 16 = omega arith in
    let whole : 16 * (b / 16) + b % 16 ≡ b = omega arith in
    rw (digit-capital (b / 16) high, digit-capital (b % 16) low, whole) (ap (read_map (λ xs. b ∷ xs)) is)

bytes_again : (bytes : List ℕ) → AllByRecursion (λ b. b < 256) bytes → opaque_bytes (flat_map escaped_byte bytes) ≡ Ok bytes
bytes_again [] h = refl
bytes_again (b ∷ bytes) h = one_byte b (flat_map escaped_byte bytes) bytes h.0 (bytes_again bytes h.1)

opaque_again : (bytes : List ℕ) → AllByRecursion (λ b. b < 256) bytes → value_of (chars (value_text (value.Opaque bytes))) ≡ Ok (value.Opaque bytes)
opaque_again bytes h =
    let written = flat_map escaped_byte bytes in
    let dark : AllByRecursion IsDark (codes "\\FF" ++ written) = ((refl, omega arith), ((refl, omega arith), ((refl, omega arith), bytes-dark bytes h))) in
    ap value_of (chars-IsAscii (codes "\\FF" ++ written) (dark-ascii (codes "\\FF" ++ written) dark))
    ∙ ap (λ xs. option_map_or (λ rest. value_by value.Opaque (opaque_bytes rest)) (opaque_rest xs) (value_by (λ read. value_of_form (squeezed_text read)) (unescaped_text_at place.Value (codes "\\FF" ++ written))))
    (dark_trimmed (codes "\\FF" ++ written) dark)
    ∙ ap (value_by value.Opaque) (bytes_again bytes h)

-- ---- each value

truth_again : value_of (chars (codes "true")) ≡ Ok (value.Bool true)
unfolding caseless std_str.chars lib.Utf8.encode
truth_again = refl

lie_again : value_of (chars (codes "false")) ≡ Ok (value.Bool false)
unfolding caseless std_str.chars lib.Utf8.encode
lie_again = refl

pub value-read_again : (v : Value) → IsValue v → value_of (chars (value_text v)) ≡ Ok v
value-read_again (value.Bool true) is = truth_again
value-read_again (value.Bool false) is = lie_again
value-read_again (value.Int z) is = numerals_again (signed_decimal z) z (numerals-written z is) (integer-written z is)
value-read_again (value.Opaque bytes) is = opaque_again bytes is
value-read_again (value.Text t) is = text_again t is
