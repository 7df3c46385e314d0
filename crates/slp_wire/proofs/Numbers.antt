-- Numbers that are read are those that were written.
use Rattle.std.proofs.Common.{◌≡◌, ℕ, suc, ◌/◌, ◌%◌, ◌^◌, ◌<◌, false, eqb, ltb, List, [], ◌∷◌, ◌++◌, length, Result, Ok, refl, sym, ap, ◌∙◌, arith}
use Rattle.std.proofs.lemmas.Bool.{ne_eqb, le-ltb}
use Rattle.byteorder.specs.Endian.{big_bytes, big_number}
use Rattle.byteorder.specs.Numbers.{big_number-reads_back, big_from-lt}
use Rattle.slp_fields.specs.Reading.{byte_at, number_at, long_at}
use Rattle.slp_fields.specs.declared.fault.WireFault.{WireFault}
use Rattle.slp_wire.proofs.Steps.{IsBytes, Takes, from_ok}

abbrev pair : ℕ → List ℕ → Result (ℕ × List ℕ) WireFault
pair n rest = Ok (n, rest)

pub two_back : (a b : ℕ) (rest : List ℕ) → a < 256 → b < 256 → big_bytes 2 (big_number 2 (a ∷ b ∷ rest)) ≡ a ∷ b ∷ []
two_back a b rest fa fb =
    let n = big_number 2 (a ∷ b ∷ rest) in
    let e1 : n / 256 % 256 ≡ a = omega arith in
    let e0 : n % 256 ≡ b = omega arith in
    ap (λ (x : ℕ). x ∷ n % 256 ∷ []) e1 ∙ ap (λ (x : ℕ). a ∷ x ∷ []) e0

pub three_back : (a b c : ℕ) (rest : List ℕ) → a < 256 → b < 256 → c < 256 → big_bytes 3 (big_number 3 (a ∷ b ∷ c ∷ rest)) ≡ a ∷ b ∷ c ∷ []
three_back a b c rest fa fb fc =
    let n = big_number 3 (a ∷ b ∷ c ∷ rest) in
    let e2 : n / 65536 % 256 ≡ a = omega arith in
    let e1 : n / 256 % 256 ≡ b = omega arith in
    let e0 : n % 256 ≡ c = omega arith in
    ap (λ (x : ℕ). x ∷ n / 256 % 256 ∷ n % 256 ∷ []) e2 ∙ ap (λ (x : ℕ). a ∷ x ∷ n % 256 ∷ []) e1 ∙ ap (λ (x : ℕ). a ∷ b ∷ x ∷ []) e0

pub four_back : (a b c d : ℕ) (rest : List ℕ) → a < 256 → b < 256 → c < 256 → d < 256 → big_bytes 4 (big_number 4 (a ∷ b ∷ c ∷ d ∷ rest)) ≡ a ∷ b ∷ c ∷ d ∷ []
four_back a b c d rest fa fb fc fd =
    let n = big_number 4 (a ∷ b ∷ c ∷ d ∷ rest) in
    let e3 : n / 16777216 % 256 ≡ a = omega arith in
    let e2 : n / 65536 % 256 ≡ b = omega arith in
    let e1 : n / 256 % 256 ≡ c = omega arith in
    let e0 : n % 256 ≡ d = omega arith in
    ap (λ (x : ℕ). x ∷ n / 65536 % 256 ∷ n / 256 % 256 ∷ n % 256 ∷ []) e3 ∙ ap (λ (x : ℕ). a ∷ x ∷ n / 256 % 256 ∷ n % 256 ∷ []) e2
    ∙ ap (λ (x : ℕ). a ∷ b ∷ x ∷ n % 256 ∷ []) e1 ∙ ap (λ (x : ℕ). a ∷ b ∷ c ∷ x ∷ []) e0

pub two_again : (n : ℕ) (rest : List ℕ) → n < 2 ^ 16 → big_number 2 (big_bytes 2 n ++ rest) ≡ n
two_again n rest lt = big_number-reads_back 2 n rest lt

pub three_again : (n : ℕ) (rest : List ℕ) → n < 2 ^ 24 → big_number 3 (big_bytes 3 n ++ rest) ≡ n
three_again n rest lt = big_number-reads_back 3 n rest lt

four_again : (n : ℕ) (rest : List ℕ) → n < 2 ^ 32 → big_number 4 (big_bytes 4 n ++ rest) ≡ n
four_again n rest lt = big_number-reads_back 4 n rest lt

pub two_fits : (bytes : List ℕ) → IsBytes bytes → big_number 2 bytes < 2 ^ 16
two_fits bytes fits = big_from-lt 0 2 bytes fits

pub three_fits : (bytes : List ℕ) → IsBytes bytes → big_number 3 bytes < 2 ^ 24
three_fits bytes fits = big_from-lt 0 3 bytes fits

four_fits : (bytes : List ℕ) → IsBytes bytes → big_number 4 bytes < 2 ^ 32
four_fits bytes fits = big_from-lt 0 4 bytes fits

-- ---- as fields

pub byte_again : (b : ℕ) (rest : List ℕ) → byte_at (b ∷ rest) ≡ Ok (b, rest)
unfolding byte_at
byte_again b rest =
    let some : eqb (length (b ∷ rest)) 0 ≡ false = ne_eqb (length (b ∷ rest)) 0 (λ (h : length (b ∷ rest) ≡ 0). absurd (omega arith)) in
    rw some refl

pub byte_takes : (bytes : List ℕ) (b : ℕ) (rest : List ℕ) → IsBytes bytes → byte_at bytes ≡ Ok (b, rest) → Takes bytes (b ∷ []) rest × (b < 256)
unfolding byte_at
byte_takes [] b rest fits e = absurd cc
byte_takes (c ∷ bytes) b rest fits e =
    from_ok (λ (x : ℕ × List ℕ). Takes (c ∷ bytes) (x.0 ∷ []) x.1 × (x.0 < 256)) (c, bytes) (b, rest) (sym (byte_again c bytes) ∙ e) (record { parts = refl; rest_fits = λ i. fits (suc i) }, fits 0)

number_here : (a b : ℕ) (rest : List ℕ) → number_at (a ∷ b ∷ rest) ≡ Ok (big_number 2 (a ∷ b ∷ rest), rest)
unfolding number_at
number_here a b rest =
    let long : ltb (length (a ∷ b ∷ rest)) 2 ≡ false = le-ltb _ _ (omega arith) in
    rw long refl

pub number_takes : (bytes : List ℕ) (n : ℕ) (rest : List ℕ) → IsBytes bytes → number_at bytes ≡ Ok (n, rest) → Takes bytes (big_bytes 2 n) rest × (n < 2 ^ 16)
unfolding number_at
number_takes [] n rest fits e = absurd cc
number_takes (a ∷ []) n rest fits e = absurd cc
number_takes (a ∷ b ∷ bytes) n rest fits e =
    let back = two_back a b bytes (fits 0) (fits 1) in
    let parts : a ∷ b ∷ bytes ≡ big_bytes 2 (big_number 2 (a ∷ b ∷ bytes)) ++ bytes = ap (λ (x : List ℕ). x ++ bytes) (sym back) in
    from_ok (λ (x : ℕ × List ℕ). Takes (a ∷ b ∷ bytes) (big_bytes 2 x.0) x.1 × (x.0 < 2 ^ 16)) (big_number 2 (a ∷ b ∷ bytes), bytes) (n, rest) (sym (number_here a b bytes) ∙ e) (record { parts = parts; rest_fits = λ i. fits (suc (suc i)) }, two_fits (a ∷ b ∷ bytes) fits)

pub number_again : (n : ℕ) (rest : List ℕ) → n < 2 ^ 16 → number_at (big_bytes 2 n ++ rest) ≡ Ok (n, rest)
number_again n rest lt = number_here (n / 256 % 256) (n % 256) rest ∙ ap (λ (x : ℕ). pair x rest) (two_again n rest lt)

long_here : (a b c d : ℕ) (rest : List ℕ) → long_at (a ∷ b ∷ c ∷ d ∷ rest) ≡ Ok (big_number 4 (a ∷ b ∷ c ∷ d ∷ rest), rest)
unfolding long_at
long_here a b c d rest =
    let long : ltb (length (a ∷ b ∷ c ∷ d ∷ rest)) 4 ≡ false = le-ltb _ _ (omega arith) in
    rw long refl

pub long_takes : (bytes : List ℕ) (n : ℕ) (rest : List ℕ) → IsBytes bytes → long_at bytes ≡ Ok (n, rest) → Takes bytes (big_bytes 4 n) rest × (n < 2 ^ 32)
unfolding long_at
long_takes [] n rest fits e = absurd cc
long_takes (a ∷ []) n rest fits e = absurd cc
long_takes (a ∷ b ∷ []) n rest fits e = absurd cc
long_takes (a ∷ b ∷ c ∷ []) n rest fits e = absurd cc
long_takes (a ∷ b ∷ c ∷ d ∷ bytes) n rest fits e =
    let whole = a ∷ b ∷ c ∷ d ∷ bytes in
    let back = four_back a b c d bytes (fits 0) (fits 1) (fits 2) (fits 3) in
    let parts : whole ≡ big_bytes 4 (big_number 4 whole) ++ bytes = ap (λ (x : List ℕ). x ++ bytes) (sym back) in
    from_ok (λ (x : ℕ × List ℕ). Takes whole (big_bytes 4 x.0) x.1 × (x.0 < 2 ^ 32)) (big_number 4 whole, bytes) (n, rest) (sym (long_here a b c d bytes) ∙ e) (record { parts = parts; rest_fits = λ i. fits (suc (suc (suc (suc i)))) }, four_fits whole fits)

pub long_again : (n : ℕ) (rest : List ℕ) → n < 2 ^ 32 → long_at (big_bytes 4 n ++ rest) ≡ Ok (n, rest)
long_again n rest lt = long_here (n / 16777216 % 256) (n / 65536 % 256) (n / 256 % 256) (n % 256) rest ∙ ap (λ (x : ℕ). pair x rest) (four_again n rest lt)
