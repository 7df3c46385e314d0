-- Headers, as they are read and as they are spelled (RFC 2608, section 8).
use Rattle.std.proofs.Common.{◌≡◌, ℕ, ◌+◌, ◌^◌, ◌<◌, ◌≤◌, Bool, true, cond, List, [], ◌∷◌, ◌++◌, length, take, drop, Some, None, Option, refl, sym, ap, ◌∙◌, arith}
use Rattle.std.specs.Prelude.{slice_index, nat_le, ◌&&◌}
use Rattle.std.specs.List.{list_all}
use Rattle.std.proofs.lemmas.Bool.{le-leb, leb-true, and_parts, and_from}
use Rattle.std.proofs.lemmas.List.{take_at, take-append-drop, length-append, length-take, length-drop}
use Rattle.byteorder.specs.Endian.{big_bytes, big_number}
use Rattle.slp_headers.specs.Headers.{Heading, heading_bytes, tag_of, is_readable, fields_of, heading_of}
use Rattle.slp_messages.specs.Tags.{is_tag_byte, IsTag}
use Rattle.slp_wire.proofs.Numbers.{two_back, three_back, two_again, three_again, two_fits, three_fits}
use Rattle.slp_wire.proofs.Steps.{IsBytes, IsBytes-drop}

-- the numbers of a header fit their places
pub record IsHeading (h : Heading) : Type 0 where
  pub length : h.length < 2 ^ 24
  pub flags : h.flags < 2 ^ 16
  pub extension : h.extension < 2 ^ 24
  pub xid : h.xid < 2 ^ 16
  pub language : IsTag h.language

-- the numbers of a header, one after the other
abbrev laid : ℕ → ℕ → List ℕ → List ℕ → List ℕ → List ℕ → List ℕ → List ℕ → List ℕ
laid version function length flags extension xid tag rest = version ∷ function ∷ (length ++ (flags ++ (extension ++ (xid ++ (tag ++ rest)))))

same_laid : (v f : ℕ) (l l' g g' e e' x x' t t' rest : List ℕ) → l ≡ l' → g ≡ g' → e ≡ e' → x ≡ x' → t ≡ t' → laid v f l g e x t rest ≡ laid v f l' g' e' x' t' rest
same_laid v f l l' g g' e e' x x' t t' rest p q r s u = cc

-- bytes that are long enough begin with the numbers that they are read as
split : (bytes : List ℕ) → IsBytes bytes → 14 ≤ length bytes
    → bytes ≡ laid (slice_index bytes 0) (slice_index bytes 1) (big_bytes 3 (big_number 3 (drop 2 bytes))) (big_bytes 2 (big_number 2 (drop 5 bytes))) (big_bytes 3 (big_number 3 (drop 7 bytes))) (big_bytes 2 (big_number 2 (drop 10 bytes))) (big_bytes 2 (big_number 2 (drop 12 bytes))) (drop 14 bytes)
split (b0 ∷ b1 ∷ b2 ∷ b3 ∷ b4 ∷ b5 ∷ b6 ∷ b7 ∷ b8 ∷ b9 ∷ b10 ∷ b11 ∷ b12 ∷ b13 ∷ rest) fits long =
    sym (same_laid b0 b1 _ (b2 ∷ b3 ∷ b4 ∷ []) _ (b5 ∷ b6 ∷ []) _ (b7 ∷ b8 ∷ b9 ∷ []) _ (b10 ∷ b11 ∷ []) _ (b12 ∷ b13 ∷ []) rest
    (three_back b2 b3 b4 (b5 ∷ b6 ∷ b7 ∷ b8 ∷ b9 ∷ b10 ∷ b11 ∷ b12 ∷ b13 ∷ rest) (fits 2) (fits 3) (fits 4))
    (two_back b5 b6 (b7 ∷ b8 ∷ b9 ∷ b10 ∷ b11 ∷ b12 ∷ b13 ∷ rest) (fits 5) (fits 6))
    (three_back b7 b8 b9 (b10 ∷ b11 ∷ b12 ∷ b13 ∷ rest) (fits 7) (fits 8) (fits 9))
    (two_back b10 b11 (b12 ∷ b13 ∷ rest) (fits 10) (fits 11))
    (two_back b12 b13 rest (fits 12) (fits 13)))
split _ fits long = absurd (omega arith)

-- what a readable header is known for
record Readable (bytes : List ℕ) : Type 0 where
  long : 14 ≤ length bytes
  short : length (tag_of bytes) ≤ 64
  counted : length (tag_of bytes) ≡ big_number 2 (drop 12 bytes)
  printable : list_all is_tag_byte (tag_of bytes) ≡ true

readable_means : (bytes : List ℕ) → is_readable bytes ≡ true → Readable bytes
readable_means bytes readable =
    let n = big_number 2 (drop 12 bytes) in
    let a = and_parts (nat_le 14 (length bytes) && nat_le n 64 && nat_le (14 + n) (length bytes)) (list_all is_tag_byte (tag_of bytes)) readable in
    let b = and_parts (nat_le 14 (length bytes) && nat_le n 64) (nat_le (14 + n) (length bytes)) a.0 in
    let c = and_parts (nat_le 14 (length bytes)) (nat_le n 64) b.0 in
    let room : 14 + n ≤ length bytes = leb-true _ _ b.1 in
    let few : n ≤ 64 = leb-true _ _ c.1 in
    let counted : length (tag_of bytes) ≡ n = omega (arith, length-take n (drop 14 bytes), length-drop 14 bytes, room) in
    record { long = leb-true _ _ c.0; short = omega (arith, counted, few); counted = counted; printable = a.1 }

-- a readable header is spelled in front of the bytes
pub header_is_front : (bytes : List ℕ) → IsBytes bytes → is_readable bytes ≡ true → bytes ≡ heading_bytes (fields_of bytes) ++ drop (big_number 2 (drop 12 bytes)) (drop 14 bytes)
header_is_front bytes fits readable =
    let known = readable_means bytes readable in
    let n = big_number 2 (drop 12 bytes) in
    let from : List ℕ → List ℕ → List ℕ = λ (count rest : List ℕ). laid (slice_index bytes 0) (slice_index bytes 1) (big_bytes 3 (big_number 3 (drop 2 bytes))) (big_bytes 2 (big_number 2 (drop 5 bytes))) (big_bytes 3 (big_number 3 (drop 7 bytes))) (big_bytes 2 (big_number 2 (drop 10 bytes))) count rest in
    split bytes fits known.long
    ∙ ap (λ (rest : List ℕ). from (big_bytes 2 n) rest) (sym (take-append-drop n (drop 14 bytes)))
    ∙ ap (λ (k : ℕ). from (big_bytes 2 k) (tag_of bytes ++ drop n (drop 14 bytes))) (sym known.counted)

-- so long is a readable header
pub header_length : (bytes : List ℕ) → is_readable bytes ≡ true → length (heading_bytes (fields_of bytes)) ≡ 14 + length (tag_of bytes)
header_length bytes readable = omega arith

pub header_fits : (bytes : List ℕ) → IsBytes bytes → is_readable bytes ≡ true → IsHeading (fields_of bytes)
header_fits bytes fits readable =
    let known = readable_means bytes readable in
    record {
      length = three_fits (drop 2 bytes) (IsBytes-drop 2 bytes fits);
      flags = two_fits (drop 5 bytes) (IsBytes-drop 5 bytes fits);
      extension = three_fits (drop 7 bytes) (IsBytes-drop 7 bytes fits);
      xid = two_fits (drop 10 bytes) (IsBytes-drop 10 bytes fits);
      language = record { short = known.short; printable = known.printable };
    }

unfoldable pub made : ℕ → ℕ → ℕ → ℕ → ℕ → ℕ → List ℕ → Heading
made v f l g e x t = record { version = v; function = f; length = l; flags = g; extension = e; xid = x; language = t }

pub same_made : (v v' f f' l l' g e e' x x' : ℕ) (t t' : List ℕ) → v ≡ v' → f ≡ f' → l ≡ l' → e ≡ e' → x ≡ x' → t ≡ t' → made v f l g e x t ≡ made v' f' l' g e' x' t'
same_made v v' f f' l l' g e e' x x' t t' p q r s u w = cc

abbrev some : Heading → Option Heading
some h = Some h

-- a header that is spelled is read again, whatever follows it
pub header_again : (h : Heading) (rest : List ℕ) → IsHeading h → heading_of (heading_bytes h ++ rest) ≡ Some h
unfolding made
header_again h rest fits =
    let bytes = heading_bytes h ++ rest in
    let after_xid = big_bytes 2 (length h.language) ++ (h.language ++ rest) in
    let after_extension = big_bytes 2 h.xid ++ after_xid in
    let after_flags = big_bytes 3 h.extension ++ after_extension in
    let after_length = big_bytes 2 h.flags ++ after_flags in
    let l : big_number 3 (drop 2 bytes) ≡ h.length = three_again h.length after_length fits.length in
    let g : big_number 2 (drop 5 bytes) ≡ h.flags = two_again h.flags after_flags fits.flags in
    let e : big_number 3 (drop 7 bytes) ≡ h.extension = three_again h.extension after_extension fits.extension in
    let x : big_number 2 (drop 10 bytes) ≡ h.xid = two_again h.xid after_xid fits.xid in
    let few : length h.language ≤ 64 = fits.language.short in
    let n : big_number 2 (drop 12 bytes) ≡ length h.language = two_again (length h.language) (h.language ++ rest) (omega (arith, few)) in
    let t : tag_of bytes ≡ h.language = ap (λ (k : ℕ). take k (h.language ++ rest)) n ∙ take_at h.language rest (length h.language) refl in
    let whole : length bytes ≡ 14 + length h.language + length rest = omega (arith, length-append h.language rest) in
    let one : nat_le 14 (length bytes) ≡ true = le-leb 14 (length bytes) (omega (arith, whole)) in
    let two : nat_le (big_number 2 (drop 12 bytes)) 64 ≡ true = le-leb (big_number 2 (drop 12 bytes)) 64 (omega (arith, n, few)) in
    let three : nat_le (14 + big_number 2 (drop 12 bytes)) (length bytes) ≡ true = le-leb (14 + big_number 2 (drop 12 bytes)) (length bytes) (omega (arith, n, whole)) in
    let four : list_all is_tag_byte (tag_of bytes) ≡ true = ap (list_all is_tag_byte) t ∙ fits.language.printable in
    let readable : is_readable bytes ≡ true = and_from _ _ (and_from _ _ (and_from _ _ one two) three) four in
    let fields : fields_of bytes ≡ h = same_made h.version h.version h.function h.function _ h.length _ _ h.extension _ h.xid _ h.language refl refl l e x t ∙ ap (λ (k : ℕ). made h.version h.function h.length k h.extension h.xid h.language) g in
    ap (λ (b : Bool). cond b (some (fields_of bytes)) None) readable ∙ ap some fields
