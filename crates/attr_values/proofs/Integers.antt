-- Whole numbers are read as std's `parse` reads them, and as they are written.
use Rattle.std.proofs.Common.{◌≡◌, ℕ, ◌+◌, ◌-◌, ◌*◌, ◌<◌, ◌≤◌, ◌^◌, true, false, cond, List, [], ◌∷◌, ◌++◌, get_or, length-append, Some, None, Result, Ok, Err, refl, sym, ap, ap₂, ◌∙◌, chars, encode_utf8, encode_utf8_all, arith, rules, eqb-true}
use Rattle.std.specs.Prelude.{ℤ, pos, negsuc, zero, suc, IsUtf8, ◌==◌, ◌&&◌, nat_le, nat_lt, ◌≢◌, length}
use Rattle.std.specs.Fmt.{decimal, signed_decimal}
use Rattle.std.specs.List.{list_all}
use Rattle.std.specs.Option.{option_and_then}
use Rattle.std.specs.Result.{OkIff, result_ok}
use Rattle.std.specs.Str.Parse.{ParsesSigned}
use Rattle.std.proofs.Math.IntN.{neg_ℤ}
use Rattle.std.proofs.lemmas.Bool.{and_parts}
use Rattle.std.proofs.lemmas.Bool.Decides.{nat_tests}
use Rattle.std.proofs.lemmas.Fmt.{decimal_nonempty, digits_decimal, digits_value-decimal}
use Rattle.std.proofs.lemmas.Str.{char_from_byte, encode_ascii, encodes-chars, len_utf8_bounds, length-encode}
use Rattle.std.proofs.lemmas.Str.Parse.{IsNumeralModel, numerals_by_fold, parse_signed_minus, parse_signed_plain}
use mir.Syntax.{w32}
use Rattle.slp_text.specs.Ascii.{digit_zero, hyphen, is_digit, plus_sign}
use Rattle.attr_values.specs.Kinds.{IsNumber}
use Rattle.attr_values.specs.Values.{integer_of, negative, number_from, number_of, positive}

-- the value of digits, after the value n
abbrev pub digits_from : ℕ → List ℕ → ℕ
digits_from n [] = n
digits_from n (c ∷ cs) = digits_from (n * 10 + (c - digit_zero)) cs

abbrev pub AreDigits : List ℕ → Type 0
AreDigits cs = list_all is_digit cs ≡ true

own : IsNumeralModel AreDigits (digits_from 0)
own = numerals_by_fold _ (search rules) digits_from (search rules)

number-digits : (n : ℕ) (cs : List ℕ) → AreDigits cs → number_from n cs ≡ Some (digits_from n cs)
number-digits n [] h = refl
number-digits n (c ∷ cs) h =
    let both = and_parts (is_digit c) (list_all is_digit cs) h in
    rw both.0 (number-digits (n * 10 + (c - digit_zero)) cs both.1)

number-other : (n : ℕ) (cs : List ℕ) → list_all is_digit cs ≡ false → number_from n cs ≡ None
number-other n [] h = cc
number-other n (c ∷ cs) h =
    elim (is_digit c) as (λ b. (b && list_all is_digit cs) ≡ false → cond b (number_from (n * 10 + (c - digit_zero)) cs) None ≡ None) [
      | true ↦ λ e. number-other (n * 10 + (c - digit_zero)) cs e
      | false ↦ λ e. refl
    ] h

-- the number that digits are, of which there are some
number_is : (cs : List ℕ) → AreDigits cs → 0 < length cs → number_of cs ≡ Some (digits_from 0 cs)
number_is [] h some = absurd (omega (arith, some))
number_is (c ∷ cs) h some = number-digits 0 (c ∷ cs) h

positive_fits : (n : ℕ) → n < 2 ^ 31 → positive n ≡ Some (pos n)
positive_fits n h = let e : nat_lt n (2 ^ 31) ≡ true = grind (arith, nat_tests) in rw e refl

negative_fits : (n : ℕ) → n < 2 ^ 31 → negative (suc n) ≡ Some (negsuc n)
negative_fits n h = let e : nat_lt n (2 ^ 31) ≡ true = grind (arith, nat_tests) in rw e refl

positive_not : (n : ℕ) → (n < 2 ^ 31 → ⊥) → positive n ≡ None
positive_not n h =
    elim (nat_lt n (2 ^ 31)) as (λ b. nat_lt n (2 ^ 31) ≡ b → cond b (Some (pos n)) None ≡ None) [
      | true ↦ λ t. absurd (h (grind (arith, nat_tests)))
      | false ↦ λ f. refl
    ] refl

negative_not : (n : ℕ) → (n ≤ 2 ^ 31 → ⊥) → negative n ≡ None
negative_not zero h = absurd (h (omega arith))
negative_not (suc n) h =
    elim (nat_lt n (2 ^ 31)) as (λ b. nat_lt n (2 ^ 31) ≡ b → cond b (Some (negsuc n)) None ≡ None) [
      | true ↦ λ t. let lt : n < 2 ^ 31 = grind (arith, nat_tests) in absurd (h (omega (arith, lt)))
      | false ↦ λ f. refl
    ] refl

negative_is : (n : ℕ) → n ≤ 2 ^ 31 → negative n ≡ Some (neg_ℤ (pos n))
negative_is zero h = refl
negative_is (suc n) h = negative_fits n (omega (arith, h))

-- of digits, of which there are some
number_some : (cs : List ℕ) → 0 < length cs → number_of cs ≡ number_from 0 cs
number_some [] some = absurd (omega (arith, some))
number_some (c ∷ cs) some = refl

-- ---- what `parse` answers

minus_is : {E : Type 0} (cs : List ℕ) (r : Result ℤ E) → OkIff r (AreDigits cs × (0 < length cs) × (digits_from 0 cs ≤ 2 ^ 31)) (neg_ℤ (pos (digits_from 0 cs))) → result_ok r ≡ option_and_then negative (number_of cs)
minus_is cs (Ok z) h =
    ap Some h.1 ∙ sym (ap (option_and_then negative) (number_is cs h.0.0 h.0.1) ∙ negative_is (digits_from 0 cs) h.0.2)
minus_is [] (Err e) h = refl
minus_is (c ∷ cs) (Err e) h =
    elim (list_all is_digit (c ∷ cs)) as (λ b. list_all is_digit (c ∷ cs) ≡ b → None ≡ option_and_then negative (number_of (c ∷ cs))) [
      | true ↦ λ t.
          let some : 0 < length (c ∷ cs) = omega arith in
          sym (ap (option_and_then negative) (number-digits 0 (c ∷ cs) t) ∙ negative_not (digits_from 0 (c ∷ cs)) (λ le. h (t, some, le)))
      | false ↦ λ f. sym (ap (option_and_then negative) (number-other 0 (c ∷ cs) f))
    ] refl

plain_is : {E : Type 0} (c : ℕ) (cs : List ℕ) (r : Result ℤ E) → OkIff r (AreDigits (c ∷ cs) × (0 < length (c ∷ cs)) × (digits_from 0 (c ∷ cs) < 2 ^ 31)) (pos (digits_from 0 (c ∷ cs)))
    → result_ok r ≡ option_and_then positive (number_of (c ∷ cs))
plain_is c cs (Ok z) h =
    ap Some h.1 ∙ sym (ap (option_and_then positive) (number-digits 0 (c ∷ cs) h.0.0) ∙ positive_fits (digits_from 0 (c ∷ cs)) h.0.2)
plain_is c cs (Err e) h =
    elim (list_all is_digit (c ∷ cs)) as (λ b. list_all is_digit (c ∷ cs) ≡ b → None ≡ option_and_then positive (number_of (c ∷ cs))) [
      | true ↦ λ t.
          let some : 0 < length (c ∷ cs) = omega arith in
          sym (ap (option_and_then positive) (number-digits 0 (c ∷ cs) t) ∙ positive_not (digits_from 0 (c ∷ cs)) (λ lt. h (t, some, lt)))
      | false ↦ λ f. sym (ap (option_and_then positive) (number-other 0 (c ∷ cs) f))
    ] refl

none_is : {E : Type 0} (r : Result ℤ E) → OkIff r (AreDigits [] × (0 < 0) × (digits_from 0 [] < 2 ^ 31)) (pos 0) → result_ok r ≡ None
none_is (Ok z) h = absurd (omega (arith, h.0.1))
none_is (Err e) h = refl

parsed_bytes : {E : Type 0} (bs : List ℕ) (r : Result ℤ E) → ParsesSigned w32 10 bs r → get_or bs 0 0 ≢ plus_sign → result_ok r ≡ integer_of bs
parsed_bytes [] r h p = none_is r (parse_signed_plain own w32 [] r h p (λ e. cc))
parsed_bytes (c ∷ cs) r h p =
    elim (c == hyphen) as (λ b. (c == hyphen) ≡ b → result_ok r ≡ cond b (option_and_then negative (number_of cs)) (option_and_then positive (number_of (c ∷ cs)))) [
      | true ↦ λ t. minus_is cs r (parse_signed_minus own w32 (c ∷ cs) r h (eqb-true c hyphen t))
      | false ↦ λ f. plain_is c cs r (parse_signed_plain own w32 (c ∷ cs) r h p (λ e. let t : (c == hyphen) ≡ true = rw e refl in cc))
    ] refl

-- ---- characters and bytes

-- the first byte of a character that is not of ASCII is not either
high_byte : (c b : ℕ) (bs rest : List ℕ) → b ∷ bs ≡ encode_utf8 c ++ rest → 128 ≤ c → 128 ≤ b
high_byte c b bs rest e h =
    elim (nat_le 128 b) as (λ x. nat_le 128 b ≡ x → 128 ≤ b) [
      | true ↦ λ t. grind (arith, nat_tests)
      | false ↦ λ f.
          let low : b < 128 = grind (arith, nat_tests) in
          let same : c ≡ b = char_from_byte (b ∷ bs) rest c e low (omega arith) in
          absurd (omega arith)
    ] refl

digit-low : (c : ℕ) → is_digit c ≡ true → c < 128
digit-low c h = grind (arith, nat_tests)

not_digit : (c : ℕ) → 128 ≤ c → is_digit c ≡ false
not_digit c h = grind (arith, nat_tests)

not_hyphen : (c : ℕ) → 128 ≤ c → (c == hyphen) ≡ false
not_hyphen c h = grind (arith, nat_tests)

number_high : (n c : ℕ) (bytes rest : List ℕ) → 128 ≤ c → bytes ≡ encode_utf8 c ++ rest → 0 < length bytes → number_from n bytes ≡ None
number_high n c [] rest h e some = absurd (omega (arith, some))
number_high n c (b ∷ bs) rest h e some = rw (not_digit b (high_byte c b bs rest e h)) refl

integer_high : (c : ℕ) (bytes rest : List ℕ) → 128 ≤ c → bytes ≡ encode_utf8 c ++ rest → 0 < length bytes → integer_of bytes ≡ None
integer_high c [] rest h e some = absurd (omega (arith, some))
integer_high c (b ∷ bs) rest h e some = let high = high_byte c b bs rest e h in rw (not_hyphen b high, not_digit b high) refl

some_bytes : (c : ℕ) (rest : List ℕ) → 0 < length (encode_utf8 c ++ rest)
some_bytes c rest = let k = (len_utf8_bounds c).0 in let l = length-encode c in let m = length-append (encode_utf8 c) rest in omega arith

number-encodes : (n : ℕ) (cs : List ℕ) → number_from n (encode_utf8_all cs) ≡ number_from n cs
number-encodes n [] = refl
number-encodes n (c ∷ cs) =
    elim (nat_lt c 128) as (λ b. nat_lt c 128 ≡ b → number_from n (encode_utf8_all (c ∷ cs)) ≡ number_from n (c ∷ cs)) [
      | true ↦ λ t.
          let low : c < 128 = grind (arith, nat_tests) in
          ap (λ xs. number_from n (xs ++ encode_utf8_all cs)) (encode_ascii c low)
          ∙ ap (λ o. cond (is_digit c) o None) (number-encodes (n * 10 + (c - digit_zero)) cs)
      | false ↦ λ f.
          let high : 128 ≤ c = grind (arith, nat_tests) in
          number_high n c (encode_utf8_all (c ∷ cs)) (encode_utf8_all cs) high refl (some_bytes c (encode_utf8_all cs)) ∙ sym (rw (not_digit c high) refl)
    ] refl

number_of-encodes : (cs : List ℕ) → number_of (encode_utf8_all cs) ≡ number_of cs
number_of-encodes [] = refl
number_of-encodes (c ∷ cs) = number_some (encode_utf8_all (c ∷ cs)) (some_bytes c (encode_utf8_all cs)) ∙ number-encodes 0 (c ∷ cs)

integer-encodes : (cs : List ℕ) → integer_of (encode_utf8_all cs) ≡ integer_of cs
integer-encodes [] = refl
integer-encodes (c ∷ cs) =
    elim (nat_lt c 128) as (λ b. nat_lt c 128 ≡ b → integer_of (encode_utf8_all (c ∷ cs)) ≡ integer_of (c ∷ cs)) [
      | true ↦ λ t.
          let low : c < 128 = grind (arith, nat_tests) in
          ap (λ xs. integer_of (xs ++ encode_utf8_all cs)) (encode_ascii c low)
          ∙ ap₂ (λ x y. cond (c == hyphen) (option_and_then negative x) (option_and_then positive y)) (number_of-encodes cs)
          (ap (λ o. cond (is_digit c) o None) (number-encodes (0 * 10 + (c - digit_zero)) cs))
      | false ↦ λ f.
          let high : 128 ≤ c = grind (arith, nat_tests) in
          integer_high c (encode_utf8_all (c ∷ cs)) (encode_utf8_all cs) high refl (some_bytes c (encode_utf8_all cs)) ∙ sym (rw (not_hyphen c high, not_digit c high) refl)
    ] refl

same_integer : (text : List ℕ) → IsUtf8 text → integer_of (chars text) ≡ integer_of text
same_integer text u = sym (integer-encodes (chars text)) ∙ ap integer_of (encodes-chars text u)

pub parsed : {E : Type 0} (text : List ℕ) (r : Result ℤ E) → IsUtf8 text → ParsesSigned w32 10 text r → get_or text 0 0 ≢ plus_sign → result_ok r ≡ integer_of (chars text)
parsed text r u h p = parsed_bytes text r h p ∙ sym (same_integer text u)

plus_bytes : (bs : List ℕ) → get_or bs 0 0 ≡ plus_sign → integer_of bs ≡ None
plus_bytes [] h = refl
plus_bytes (c ∷ cs) h = let e : c ≡ plus_sign = h in rw e refl

pub plus_none : (text : List ℕ) → IsUtf8 text → get_or text 0 0 ≡ plus_sign → integer_of (chars text) ≡ None
plus_none text u h = same_integer text u ∙ plus_bytes text h

-- ---- what is written

digits_not_hyphen : (c : ℕ) (cs : List ℕ) → AreDigits (c ∷ cs) → (c == hyphen) ≡ false
digits_not_hyphen c cs h = let d = (and_parts (is_digit c) (list_all is_digit cs) h).0 in grind (arith, nat_tests)

digits_read : (ds : List ℕ) → AreDigits ds → 0 < length ds → integer_of ds ≡ option_and_then positive (Some (digits_from 0 ds))
digits_read [] h some = absurd (omega (arith, some))
digits_read (c ∷ cs) h some = rw (digits_not_hyphen c cs h) (ap (option_and_then positive) (number-digits 0 (c ∷ cs) h))

pub digits_of_decimal : (n : ℕ) → n < 2 ^ 64 → AreDigits (decimal n)
digits_of_decimal n h = digits_decimal own n h

pub integer-written : (z : ℤ) → IsNumber z → integer_of (signed_decimal z) ≡ Some z
integer-written (pos n) h =
    let small : n < 2 ^ 64 = omega (arith, h) in
    digits_read (decimal n) (digits_decimal own n small) (decimal_nonempty n small) ∙ ap positive (digits_value-decimal own n small) ∙ positive_fits n h
integer-written (negsuc n) h =
    let small : suc n < 2 ^ 64 = omega (arith, h) in
    ap (option_and_then negative) (number_is (decimal (suc n)) (digits_decimal own (suc n) small) (decimal_nonempty (suc n) small))
    ∙ ap negative (digits_value-decimal own (suc n) small) ∙ negative_fits n h
