-- White space has no key.
use Rattle.std.proofs.Common.{◌≡◌, ℕ, true, false, ◌<◌, ◌==◌, List, [], ◌∷◌, Ok, refl, sym, ap, ap₂, ◌∙◌, map, arith, encode_utf8_all, IsAscii}
use Rattle.std.specs.Char.{to_ascii_lowercase}
use Rattle.std.specs.List.{list_all}
use Rattle.std.proofs.lemmas.Bool.{and_parts}
use Rattle.std.proofs.lemmas.Bool.Decides.{nat_tests}
use Rattle.std.proofs.lemmas.Str.Ascii.{IsAscii-nil, IsAscii-cons, All-from_ascii}
use Rattle.caseless.specs.Caseless.{default_case_fold}
use Rattle.caseless.proofs.CaselessLemmas.{default_case_fold-ascii}
use Rattle.slp_text.specs.Ascii.{backslash}
use Rattle.slp_text.specs.Escapes.{is_refused, unescaped_text_at}
use Rattle.slp_text.specs.Keys.{is_white, squeezed_rest, squeezed_text, trim_start, folded_text}
use Rattle.slp_text.specs.Reading.{read_map}
use Rattle.slp_text.specs.declared.escapes.Place.TheVariants as place

-- white space is ASCII
white-low : (c : ℕ) → is_white c ≡ true → c < 128
white-low c h = grind (arith, nat_tests)

-- it has no other case
white-lower : (c : ℕ) → is_white c ≡ true → to_ascii_lowercase c ≡ c
white-lower c h = grind (arith, nat_tests)

-- it is no backslash
white-not_slash : (c : ℕ) → is_white c ≡ true → (c == backslash) ≡ false
white-not_slash c h = grind (arith, nat_tests)

-- it may stand raw in a tag
white-raw : (c : ℕ) → is_white c ≡ true → is_refused place.Tag c ≡ false
white-raw c h = grind (arith, nat_tests)

-- white space is read as it is
whites-read : (cs : List ℕ) → list_all is_white cs ≡ true → unescaped_text_at place.Tag cs ≡ Ok cs
whites-read [] h = refl
whites-read (c ∷ cs) h =
    let both = and_parts (is_white c) (list_all is_white cs) h in
    rw (white-raw c both.0, white-not_slash c both.0) (ap (read_map (λ xs. c ∷ xs)) (whites-read cs both.1))

-- a text of white space is ASCII
whites-ascii : (cs : List ℕ) → list_all is_white cs ≡ true → IsAscii cs
whites-ascii [] h = IsAscii-nil
whites-ascii (c ∷ cs) h = let both = and_parts (is_white c) (list_all is_white cs) h in IsAscii-cons c cs (white-low c both.0) (whites-ascii cs both.1)

-- none of it has another case
whites-lower : (cs : List ℕ) → list_all is_white cs ≡ true → map to_ascii_lowercase cs ≡ cs
whites-lower [] h = refl
whites-lower (c ∷ cs) h = let both = and_parts (is_white c) (list_all is_white cs) h in ap₂ (λ x xs. x ∷ xs) (white-lower c both.0) (whites-lower cs both.1)

-- folding leaves it as it is
whites-folded : (cs : List ℕ) → list_all is_white cs ≡ true → default_case_fold cs ≡ cs
whites-folded cs h = default_case_fold-ascii cs (All-from_ascii cs (whites-ascii cs h)) ∙ whites-lower cs h

-- nothing is left of it once it is cut off
whites-squeezed : (cs : List ℕ) → list_all is_white cs ≡ true → trim_start cs ≡ []
whites-squeezed [] h = refl
whites-squeezed (c ∷ cs) h = let both = and_parts (is_white c) (list_all is_white cs) h in rw both.0 (whites-squeezed cs both.1)

-- nothing but white space has no key
pub whites-no_key : (cs read : List ℕ) → list_all is_white cs ≡ true → unescaped_text_at place.Tag cs ≡ Ok read → folded_text read ≡ []
whites-no_key cs read h k =
    let same : cs ≡ read = let e = whites-read cs h in cc in
    ap folded_text (sym same) ∙ ap (λ xs. encode_utf8_all (squeezed_text xs)) (whites-folded cs h) ∙ ap (λ xs. encode_utf8_all (squeezed_rest false xs)) (whites-squeezed cs h)
