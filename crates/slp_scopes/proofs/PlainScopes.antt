-- Texts that are written in lists of scopes as they are.
use Rattle.std.proofs.Common.{◌≡◌, ◌<◌, ◌≤◌, ◌+◌, ℕ, true, false, ◌==◌, List, [], ◌∷◌, ◌++◌, map, Ok, length, ap, ap₂, sym, ◌∙◌, refl, chars, encode_utf8_all, cond, take, drop, take-append-drop, append_assoc, arith, eqb-true}
use Rattle.std.specs.Prelude.{◌&&◌, ◌||◌, not, nat_lt, filter}
use Rattle.std.specs.Char.{to_ascii_lowercase}
use Rattle.std.proofs.lemmas.List.{length-map}
use Rattle.std.specs.List.{AllByRecursion, after_first, before_first, list_all, onto_first, position_or_len, slice_range, slice_split}
use Rattle.std.specs.Str.{IsCharBoundary}
use Rattle.std.proofs.lemmas.List.Folds.{list_all-append}
use Rattle.std.proofs.lemmas.List.Splits.{slice_split_first}
use Rattle.std.proofs.lemmas.List.Sums.{prefix_len-le-length}
use Rattle.std.proofs.lemmas.Bool.{and_parts}
use Rattle.std.proofs.lemmas.Bool.Decides.{nat_tests}
use Rattle.std.proofs.lemmas.Str.{chars-IsAscii, scalars-chars, IsCharBoundary-from_ascii, IsUtf8-from_ascii}
use Rattle.std.proofs.lemmas.Str.Ascii.{encodes-IsAscii}
use Rattle.slp_text.specs.Escapes.{is_refused, is_reserved, escaped_text, unescaped_text_at}
use Rattle.slp_text.specs.Keys.{is_word_byte, key_of, folded_text}
use Rattle.slp_text.specs.Reading.{read_map, read_then, read_all}
use Rattle.slp_scopes.specs.ScopeNames.{keys_of, scope_names_of}
use Rattle.slp_scopes.specs.Scopes.{is_plain_byte, is_plain_list, is_plain_text, scopes_of}
use Rattle.slp_text.specs.Lists.{is_comma, is_some_text}
use Rattle.slp_text.specs.Sets.{set_of}
use Rattle.slp_text.specs.declared.escapes.Place.TheVariants.{Scope}
use Rattle.slp_text.proofs.AsciiKeys.{is_ascii, key-word}
use Rattle.slp_text.proofs.EscapedTexts.{read_again, refused_free}
use Rattle.slp_scopes.proofs.PrintedScopes.{none-read, written-read}
use Rattle.slp_text.proofs.KeysOfKeys.{key_of-folded_text}
use Rattle.slp_text.proofs.Lists.{kept}

in_word : (b : ℕ) → is_plain_byte b ≡ true → is_word_byte b ≡ true
in_word b h = grind (arith, nat_tests)

not_reserved : (b : ℕ) → is_plain_byte b ≡ true → is_reserved Scope b ≡ false
not_reserved b h = grind (arith, nat_tests)

pub plain_word : (text : List ℕ) → is_plain_text text ≡ true → list_all is_word_byte text ≡ true
plain_word [] h = refl
plain_word (b ∷ bs) h =
    let both = and_parts (is_plain_byte b) (is_plain_text bs) h in
    ap₂ (λ p q. p && q) (in_word b both.0) (plain_word bs both.1)

escaped_text-plain : (text : List ℕ) → is_plain_text text ≡ true → escaped_text Scope text ≡ text
escaped_text-plain [] h = refl
escaped_text-plain (b ∷ bs) h =
    let both = and_parts (is_plain_byte b) (is_plain_text bs) h in
    rw (not_reserved b both.0) (ap (λ cs. b ∷ cs) (escaped_text-plain bs both.1))

pub written-plain : (text : List ℕ) → is_plain_text text ≡ true → encode_utf8_all (escaped_text Scope (chars text)) ≡ text
written-plain text h =
    let a = is_ascii text (plain_word text h) in
    ap (λ cs. encode_utf8_all (escaped_text Scope cs)) (chars-IsAscii text a) ∙ ap encode_utf8_all (escaped_text-plain text h) ∙ encodes-IsAscii text a

scopes-plain : (text : List ℕ) → is_plain_text text ≡ true → scopes_of text ≡ Ok (set_of (filter is_some_text (key_of text ∷ [])))
unfolding key_of
scopes-plain text h =
    ap scopes_of (sym (written-plain text h)) ∙ written-read (chars text) (scalars-chars text (IsUtf8-from_ascii text (is_ascii text (plain_word text h))))

-- a key is as long as its word
pub some_key : (text : List ℕ) → list_all is_word_byte text ≡ true → is_some_text (key_of text) ≡ is_some_text text
some_key text h = ap is_some_text (key-word text h) ∙ ap (λ n. nat_lt 0 n) (length-map text to_ascii_lowercase)

pub plain_none : (text : List ℕ) → (length text == 0) ≡ true → scopes_of text ≡ Ok []
plain_none [] none = none-read
plain_none (b ∷ bs) none = absurd (omega (arith, eqb-true (length (b ∷ bs)) 0 none))

pub plain_one : (text : List ℕ) → is_plain_text text ≡ true → (length text == 0) ≡ false → scopes_of text ≡ Ok (key_of text ∷ [])
plain_one [] h some = cc
plain_one (b ∷ bs) h some =
    let is : is_some_text (key_of (b ∷ bs)) ≡ true = some_key (b ∷ bs) (plain_word (b ∷ bs) h) ∙ grind (arith, nat_tests) in
    scopes-plain (b ∷ bs) h ∙ ap (λ p. Ok (set_of (cond p (key_of (b ∷ bs) ∷ []) []))) is

-- ---- several names, with commas between them

listed_word : (b : ℕ) → (is_comma b || is_plain_byte b) ≡ true → is_word_byte b ≡ true
listed_word b h = grind (arith, nat_tests)

listed_plain : (b : ℕ) → (is_comma b || is_plain_byte b) ≡ true → is_comma b ≡ false → is_plain_byte b ≡ true
listed_plain b h f = grind (arith, nat_tests)

pub list_words : (text : List ℕ) → is_plain_list text ≡ true → list_all is_word_byte text ≡ true
list_words [] h = refl
list_words (b ∷ bs) h =
    let both = and_parts (is_comma b || is_plain_byte b) (is_plain_list bs) h in
    ap₂ (λ p q. p && q) (listed_word b both.0) (list_words bs both.1)

abbrev ArePlainTexts : List (List ℕ) → Type 0
ArePlainTexts = AllByRecursion (λ t. is_plain_text t ≡ true)

onto_plain : (b : ℕ) (ts : List (List ℕ)) → is_plain_byte b ≡ true → ArePlainTexts ts → ArePlainTexts (onto_first b ts)
onto_plain b [] s h = (ap (λ t. t && true) s, tt)
onto_plain b (t ∷ ts) s h = (ap₂ (λ p q. p && q) s h.0, h.1)

plain_parts : (text : List ℕ) → is_plain_list text ≡ true → ArePlainTexts (slice_split is_comma text)
plain_parts [] h = (refl, tt)
plain_parts (b ∷ bs) h =
    let both = and_parts (is_comma b || is_plain_byte b) (is_plain_list bs) h in
    let later = plain_parts bs both.1 in
    elim (is_comma b) as (λ t. is_comma b ≡ t → ArePlainTexts (cond t ([] ∷ slice_split is_comma bs) (onto_first b (slice_split is_comma bs)))) [
      | true ↦ λ t. (refl, later)
      | false ↦ λ f. onto_plain b (slice_split is_comma bs) (listed_plain b both.0 f) later
    ] refl

unescaped-plain : (text : List ℕ) → is_plain_text text ≡ true → unescaped_text_at Scope text ≡ Ok text
unescaped-plain text h = ap (unescaped_text_at Scope) (sym (escaped_text-plain text h)) ∙ read_again Scope (is_refused Scope) (refused_free Scope) text

all_read-plain : (ts : List (List ℕ)) → ArePlainTexts ts → read_all (unescaped_text_at Scope) ts ≡ Ok ts
all_read-plain [] h = refl
all_read-plain (t ∷ ts) h =
    ap (read_then (λ y. read_map (λ ys. y ∷ ys) (read_all (unescaped_text_at Scope) ts))) (unescaped-plain t h.0)
    ∙ ap (read_map (λ ys. t ∷ ys)) (all_read-plain ts h.1)

folded-plain : (text : List ℕ) → is_plain_text text ≡ true → folded_text text ≡ key_of text
folded-plain text h = ap folded_text (sym (chars-IsAscii text (is_ascii text (plain_word text h)))) ∙ sym (key_of-folded_text text)

all_folded-plain : (ts : List (List ℕ)) → ArePlainTexts ts → map folded_text ts ≡ map key_of ts
all_folded-plain [] h = refl
all_folded-plain (t ∷ ts) h = ap₂ (λ k ks. k ∷ ks) (folded-plain t h.0) (all_folded-plain ts h.1)

-- the keys of the parts of bytes, without the empty ones
abbrev pub names_in : List ℕ → List (List ℕ)
names_in bytes = filter is_some_text (map key_of (slice_split is_comma bytes))

pub names-plain : (text : List ℕ) → is_plain_list text ≡ true → scope_names_of text ≡ Ok (names_in text)
unfolding scope_names_of
names-plain text h =
    let parts = slice_split is_comma text in
    let plain = plain_parts text h in
    ap (λ cs. read_map keys_of (read_all (unescaped_text_at Scope) (slice_split is_comma cs))) (chars-IsAscii text (is_ascii text (list_words text h)))
    ∙ ap (read_map keys_of) (all_read-plain parts plain)
    ∙ ap (λ fs. Ok (filter is_some_text fs)) (all_folded-plain parts plain)

one_part : (text : List ℕ) → position_or_len is_comma text ≡ length text → slice_split is_comma text ≡ text ∷ []
one_part [] h = refl
one_part (b ∷ bs) h =
    elim (is_comma b) as (λ t. cond (not t) (1 + position_or_len is_comma bs) 0 ≡ length (b ∷ bs) → cond t ([] ∷ slice_split is_comma bs) (onto_first b (slice_split is_comma bs)) ≡ (b ∷ bs) ∷ []) [
      | true ↦ λ e. absurd (omega (arith, e))
      | false ↦ λ e. ap (onto_first b) (one_part bs (omega (arith, e)))
    ] h

pub names-last : (text : List ℕ) → position_or_len is_comma text ≡ length text → names_in text ≡ filter is_some_text (key_of text ∷ [])
names-last text h = ap (λ ts. filter is_some_text (map key_of ts)) (one_part text h)

names-cut : (text : List ℕ) → position_or_len is_comma text < length text
    → names_in text ≡ filter is_some_text (key_of (before_first is_comma text) ∷ []) ++ names_in (after_first is_comma text)
names-cut text h =
    ap (λ ts. filter is_some_text (map key_of ts)) (slice_split_first is_comma text 0 h)
    ∙ kept (key_of (before_first is_comma text)) (map key_of (slice_split is_comma (after_first is_comma text)))

-- what is taken and what is still to come, once a word more is taken
pub names-next : (all keys taken : List (List ℕ)) (text word more : List ℕ) → position_or_len is_comma text < length text → word ≡ before_first is_comma text → more ≡ after_first is_comma text
    → taken ≡ keys ++ filter is_some_text (key_of word ∷ []) → all ≡ keys ++ names_in text → all ≡ taken ++ names_in more
names-next all keys taken text word more some word_is more_is taken_is all_is =
    all_is
    ∙ ap (λ ks. keys ++ ks) (names-cut text some ∙ ap₂ (λ t u. filter is_some_text (key_of t ∷ []) ++ names_in u) (sym word_is) (sym more_is))
    ∙ sym (append_assoc keys (filter is_some_text (key_of word ∷ [])) (names_in more))
    ∙ ap (λ ks. ks ++ names_in more) (sym taken_is)

words_parts : (n : ℕ) (text : List ℕ) → list_all is_word_byte text ≡ true → (list_all is_word_byte (take n text) ≡ true) × (list_all is_word_byte (drop n text) ≡ true)
words_parts n text h =
    and_parts (list_all is_word_byte (take n text)) (list_all is_word_byte (drop n text))
    (sym (list_all-append is_word_byte (take n text) (drop n text)) ∙ ap (list_all is_word_byte) (take-append-drop n text) ∙ h)

pub words-cut : (text : List ℕ) → list_all is_word_byte text ≡ true → (list_all is_word_byte (before_first is_comma text) ≡ true) × (list_all is_word_byte (after_first is_comma text) ≡ true)
words-cut text h = ((words_parts (position_or_len is_comma text) text h).0, (words_parts (position_or_len is_comma text + 1) text h).1)

-- whether a word is empty, by its key
pub some-word : (text : List ℕ) → list_all is_word_byte text ≡ true → (length text == 0) ≡ false → is_some_text (key_of text) ≡ true
some-word text h some = some_key text h ∙ grind (arith, nat_tests)

pub no-word : (text : List ℕ) → list_all is_word_byte text ≡ true → (length text == 0) ≡ true → is_some_text (key_of text) ≡ false
no-word text h none = some_key text h ∙ grind (arith, nat_tests)

pub comma_within : (text : List ℕ) → position_or_len is_comma text ≤ length text
comma_within text = prefix_len-le-length (λ b. not (is_comma b)) text

pub front : (n : ℕ) (text : List ℕ) → slice_range text 0 n ≡ take n text
front n text = ap (λ m. take m text) (omega arith)

-- characters begin everywhere in a word
pub word-boundary : (text : List ℕ) (i : ℕ) → list_all is_word_byte text ≡ true → i ≤ length text → IsCharBoundary text i
word-boundary text i h within = IsCharBoundary-from_ascii text i (is_ascii text h) within
