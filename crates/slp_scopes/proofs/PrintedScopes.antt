-- Scope lists that are printed are read again.
use Rattle.std.proofs.Common.{◌≡◌, ◌<◌, ◌+◌, ◌*◌, ℕ, Bool, true, false, cond, List, [], ◌∷◌, ◌++◌, map, Result, Ok, Err, Some, None, refl, sym, ap, ap₂, subst, ◌∙◌, chars, encode_utf8_all, arith}
use Rattle.std.specs.Prelude.{◌/◌, ◌%◌, ◌&&◌, ◌==◌, filter, flat_map, IsUtf8}
use Rattle.std.specs.List.{AllByRecursion, list_any, slice_split, onto_first}
use Rattle.std.specs.Option.{option_map_or}
use Rattle.std.proofs.lemmas.Bool.{and_parts}
use Rattle.std.proofs.lemmas.Bool.Decides.{nat_tests}
use Rattle.std.proofs.lemmas.Str.{chars-encodes, scalars-chars, encodes-append, chars-nil}
use lib.Utf8.{scalar, scalars}
use Rattle.caseless.specs.Caseless.{default_case_fold}
use Rattle.ucd_case.specs.CaseFolding.{full_fold}
use Rattle.slp_text.specs.Ascii.{backslash, comma}
use Rattle.slp_text.specs.Escapes.{is_escapable, is_refused, is_reserved, digit_of, capital_digit, unescaped_text_from, unescaped_text_at, written_character, escaped_text}
use Rattle.slp_text.specs.Keys.{squeezed_text, folded_text}
use Rattle.slp_text.specs.Reading.{read_map, read_then, read_all}
use Rattle.slp_scopes.specs.Scopes.{scopes_of, printed_scopes, IsScope, AreScopes}
use Rattle.slp_text.specs.Sets.{common_keys, set_of}
use Rattle.slp_text.specs.Lists.{is_comma, is_some_text, comma_list}
use Rattle.slp_text.specs.Words.{bytes_eq, IsAscending}
use Rattle.slp_text.specs.declared.escapes.Place.TheVariants.{Scope}
use Rattle.slp_text.specs.declared.escapes.Stage.TheVariants.{Plain, Slash, Digit}
use Rattle.slp_text.specs.declared.faults.TextFault.{TextFault}
use Rattle.slp_text.specs.declared.faults.TextFault.TheVariants.{BadEscape, Reserved}
use Rattle.slp_text.proofs.EscapedTexts.{read_again, refused_free, escapable_small, reserved_escapable, digit-scalar, append-scalars}
use Rattle.slp_text.proofs.KeySets.{all_with, each_weaker, each_filtered, filter_ascending, set_ascending, set_itself}
use Rattle.slp_text.proofs.KeysOfKeys.{IsFixed, key_chars, fixed_key, fold-fixed, scalars-fixed, squeeze_again, key_of-folded_text}
use Rattle.slp_text.proofs.Readers.{then_ok}

-- ---- what is read

ok_of : {A B : Type 0} (f : A → B) (r : Result A TextFault) (y : B) → read_map f r ≡ Ok y → (x : A) × (r ≡ Ok x) × (f x ≡ y)
ok_of f (Ok x) y h = (x, refl, cc)
ok_of f (Err e) y h = cc

err_ok : {A : Type 0} (e : TextFault) (x : A) → ◌≡◌ {A = Result A TextFault} (Err e) (Ok x) → ⊥
err_ok e x h = cc

escapable-scalar : (c : ℕ) → is_escapable c ≡ true → scalar c ≡ true
escapable-scalar c h = grind (arith, nat_tests)

same_scalars : (xs ys : List ℕ) → ◌≡◌ {A = Result (List ℕ) TextFault} (Ok xs) (Ok ys) → scalars xs ≡ true → scalars ys ≡ true
same_scalars xs ys h s = let e : xs ≡ ys = cc in subst (λ zs. scalars zs ≡ true) e s

module _ (refused : ℕ → Bool) where
  mutual
    plain_scalars : (cs xs : List ℕ) → scalars cs ≡ true → unescaped_text_from is_escapable refused Plain cs ≡ Ok xs → scalars xs ≡ true
    plain_scalars [] xs s = λ h. same_scalars [] xs h refl
    plain_scalars (c ∷ cs) xs s =
        let both = and_parts (scalar c) (scalars cs) s in
        elim (c == backslash) as (λ b. cond b (unescaped_text_from is_escapable refused Slash cs) (cond (refused c) (Err Reserved) (read_map (λ ys. c ∷ ys) (unescaped_text_from is_escapable refused Plain cs))) ≡ Ok xs → scalars xs ≡ true) [
          | true ↦ λ h. slash_scalars cs xs both.1 h
          | false ↦ elim (refused c) as (λ b. cond b (Err Reserved) (read_map (λ ys. c ∷ ys) (unescaped_text_from is_escapable refused Plain cs)) ≡ Ok xs → scalars xs ≡ true) [
            | true ↦ λ h. absurd (err_ok Reserved xs h)
            | false ↦ λ h.
                let r = ok_of (λ ys. c ∷ ys) (unescaped_text_from is_escapable refused Plain cs) xs h in
                subst (λ zs. scalars zs ≡ true) r.2 (ap₂ (λ a b. a && b) both.0 (plain_scalars cs r.0 both.1 r.1))
          ]
        ]

    slash_scalars : (cs xs : List ℕ) → scalars cs ≡ true → unescaped_text_from is_escapable refused Slash cs ≡ Ok xs → scalars xs ≡ true
    slash_scalars [] xs s = λ h. absurd (err_ok BadEscape xs h)
    slash_scalars (c ∷ cs) xs s =
        elim (digit_of c) as (λ o. option_map_or (λ d. unescaped_text_from is_escapable refused (Digit d) cs) o (Err BadEscape) ≡ Ok xs → scalars xs ≡ true) [
          | None ↦ λ h. absurd (err_ok BadEscape xs h)
          | Some d ↦ λ h. digit_scalars d cs xs (and_parts (scalar c) (scalars cs) s).1 h
        ]

    digit_scalars : (d : ℕ) (cs xs : List ℕ) → scalars cs ≡ true → unescaped_text_from is_escapable refused (Digit d) cs ≡ Ok xs → scalars xs ≡ true
    digit_scalars d [] xs s = λ h. absurd (err_ok BadEscape xs h)
    digit_scalars d (c ∷ cs) xs s =
        elim (digit_of c) as (λ o. option_map_or (λ e. cond (is_escapable (16 * d + e)) (read_map (λ ys. (16 * d + e) ∷ ys) (unescaped_text_from is_escapable refused Plain cs)) (Err BadEscape)) o (Err BadEscape) ≡ Ok xs → scalars xs ≡ true) [
          | None ↦ λ h. absurd (err_ok BadEscape xs h)
          | Some e ↦ elim (is_escapable (16 * d + e)) as (λ b. is_escapable (16 * d + e) ≡ b → cond b (read_map (λ ys. (16 * d + e) ∷ ys) (unescaped_text_from is_escapable refused Plain cs)) (Err BadEscape) ≡ Ok xs → scalars xs ≡ true) [
            | true ↦ λ t h.
                let r = ok_of (λ ys. (16 * d + e) ∷ ys) (unescaped_text_from is_escapable refused Plain cs) xs h in
                subst (λ zs. scalars zs ≡ true) r.2 (ap₂ (λ a b. a && b) (escapable-scalar (16 * d + e) t) (plain_scalars cs r.0 (and_parts (scalar c) (scalars cs) s).1 r.1))
            | false ↦ λ f h. absurd (err_ok BadEscape xs h)
          ] refl
        ]

-- texts of characters
abbrev pub AreScalars : List (List ℕ) → Type 0
AreScalars = AllByRecursion (λ cs. scalars cs ≡ true)

onto_scalars : (c : ℕ) (css : List (List ℕ)) → scalar c ≡ true → AreScalars css → AreScalars (onto_first c css)
onto_scalars c [] s h = (ap (λ b. b && true) s, tt)
onto_scalars c (cs ∷ css) s h = (ap₂ (λ a b. a && b) s h.0, h.1)

split_scalars : (cs : List ℕ) → scalars cs ≡ true → AreScalars (slice_split is_comma cs)
split_scalars [] s = (refl, tt)
split_scalars (c ∷ cs) s =
    let both = and_parts (scalar c) (scalars cs) s in
    elim (is_comma c) as (λ b. AreScalars (cond b ([] ∷ slice_split is_comma cs) (onto_first c (slice_split is_comma cs)))) [
      | true ↦ (refl, split_scalars cs both.1)
      | false ↦ onto_scalars c (slice_split is_comma cs) both.0 (split_scalars cs both.1)
    ]

all_read_scalars : (css xss : List (List ℕ)) → AreScalars css → read_all (unescaped_text_at Scope) css ≡ Ok xss → AreScalars xss
all_read_scalars [] xss s h = let e : [] ≡ xss = cc in subst AreScalars e tt
all_read_scalars (cs ∷ css) xss s h =
    let first = then_ok (λ y. read_map (λ ys. y ∷ ys) (read_all (unescaped_text_at Scope) css)) (unescaped_text_at Scope cs) xss h in
    let more = ok_of (λ ys. first.0 ∷ ys) (read_all (unescaped_text_at Scope) css) xss first.2 in
    subst AreScalars more.2 (plain_scalars (is_refused Scope) cs first.0 s.0 first.1, all_read_scalars css more.0 s.1 more.1)

-- ---- a scope as a key is one

-- characters that are folded and squeezed, of which there are some
record IsSpelled (k : List ℕ) : Type 0 where
  pub spelled : List ℕ
  pub fixed : AllByRecursion IsFixed spelled
  pub squeezed : squeezed_text spelled ≡ spelled
  pub is : k ≡ encode_utf8_all spelled
  pub some : is_some_text k ≡ true

folded_text-key_chars : (cs : List ℕ) → folded_text cs ≡ encode_utf8_all (key_chars cs)
unfolding default_case_fold
folded_text-key_chars cs = refl

scope_of : (cs : List ℕ) → scalars cs ≡ true → is_some_text (folded_text cs) ≡ true → IsSpelled (folded_text cs)
scope_of cs s some = record {
  spelled = key_chars cs;
  fixed = fixed_key cs s;
  squeezed = squeeze_again (flat_map full_fold cs);
  is = folded_text-key_chars cs;
  some = some;
}

kept_scopes : (css : List (List ℕ)) → AreScalars css → AllByRecursion IsSpelled (filter is_some_text (map folded_text css))
kept_scopes [] s = tt
kept_scopes (cs ∷ css) s =
    elim (is_some_text (folded_text cs)) as (λ b. is_some_text (folded_text cs) ≡ b → AllByRecursion IsSpelled (cond b (folded_text cs ∷ filter is_some_text (map folded_text css)) (filter is_some_text (map folded_text css)))) [
      | true ↦ λ t. (scope_of cs s.0 t, kept_scopes css s.1)
      | false ↦ λ f. kept_scopes css s.1
    ] refl

set_scopes : (ks : List (List ℕ)) → AllByRecursion IsSpelled ks → AllByRecursion IsSpelled (set_of ks)
set_scopes [] h = tt
set_scopes (k ∷ ks) h = all_with IsSpelled k (set_of ks) h.0 (set_scopes ks h.1)

spelled_from : (k : List ℕ) → IsScope k → IsSpelled k
spelled_from k s =
    let own : folded_text (chars k) ≡ k = sym (key_of-folded_text k) ∙ s.is_own_key in
    subst IsSpelled own (scope_of (chars k) (scalars-chars k s.is_text) (ap is_some_text own ∙ s.is_some))

chars_of : (k : List ℕ) (s : IsSpelled k) → chars k ≡ s.spelled
chars_of k s = ap chars s.is ∙ chars-encodes s.spelled (scalars-fixed s.spelled s.fixed)

folded_of : (k : List ℕ) (s : IsSpelled k) → folded_text s.spelled ≡ k
folded_of k s =
    folded_text-key_chars s.spelled ∙ ap (λ cs. encode_utf8_all (squeezed_text cs)) (fold-fixed s.spelled s.fixed) ∙ ap encode_utf8_all s.squeezed ∙ sym s.is

scope_from : (k : List ℕ) → IsSpelled k → IsScope k
scope_from k s = record {
  is_text = (s.spelled, (scalars-fixed s.spelled s.fixed, sym s.is));
  is_some = s.some;
  is_own_key = key_of-folded_text k ∙ ap folded_text (chars_of k s) ∙ folded_of k s;
}

pub read_scopes : (text : List ℕ) (ks : List (List ℕ)) → IsUtf8 text → scopes_of text ≡ Ok ks → AreScopes ks
unfolding scopes_of
read_scopes text ks u h =
    let r = ok_of (λ parts. set_of (filter is_some_text (map folded_text parts))) (read_all (unescaped_text_at Scope) (slice_split is_comma (chars text))) ks h in
    let parts = all_read_scalars (slice_split is_comma (chars text)) r.0 (split_scalars (chars text) (scalars-chars text u)) r.1 in
    let keys = filter is_some_text (map folded_text r.0) in
    subst AreScopes r.2 (record { each = each_weaker IsSpelled IsScope (set_of keys) scope_from (set_scopes keys (kept_scopes r.0 parts)); ascending = set_ascending keys })

pub common-are_scopes : (ks others : List (List ℕ)) → AreScopes ks → AreScopes (common_keys ks others)
common-are_scopes ks others a =
    let both = λ (k : List ℕ). list_any (λ (o : List ℕ). bytes_eq o k) others in
    record { each = each_filtered IsScope both ks a.each; ascending = filter_ascending both ks a.ascending }

-- ---- what is printed

digit-no_comma : (d : ℕ) → d < 16 → is_comma (capital_digit d) ≡ false
digit-no_comma d h = grind (arith, nat_tests)

raw-no_comma : (c : ℕ) → is_reserved Scope c ≡ false → is_comma c ≡ false
raw-no_comma c h = grind (arith, nat_tests)

all_append : (P : ℕ → Type 0) (xs ys : List ℕ) → AllByRecursion P xs → AllByRecursion P ys → AllByRecursion P (xs ++ ys)
all_append P [] ys p q = q
all_append P (x ∷ xs) ys p q = (p.0, all_append P xs ys p.1 q)

written_plain : (c : ℕ) → scalar c ≡ true → AllByRecursion (λ d. (is_comma d ≡ false) × (scalar d ≡ true)) (written_character Scope c)
written_plain c s =
    elim (is_reserved Scope c) as (λ b. is_reserved Scope c ≡ b → AllByRecursion (λ d. (is_comma d ≡ false) × (scalar d ≡ true)) (cond b (backslash ∷ capital_digit (c / 16) ∷ capital_digit (c % 16) ∷ []) (c ∷ []))) [
      | true ↦ λ t.
          let small = escapable_small c (reserved_escapable Scope c t) in
          let high : c / 16 < 16 = omega (arith, small) in
          let low : c % 16 < 16 = omega arith in
          ((refl, refl), ((digit-no_comma (c / 16) high, digit-scalar (c / 16) high), ((digit-no_comma (c % 16) low, digit-scalar (c % 16) low), tt)))
      | false ↦ λ f. ((raw-no_comma c f, s), tt)
    ] refl

escaped_plain : (cs : List ℕ) → scalars cs ≡ true → AllByRecursion (λ d. (is_comma d ≡ false) × (scalar d ≡ true)) (escaped_text Scope cs)
escaped_plain [] s = tt
escaped_plain (c ∷ cs) s =
    let both = and_parts (scalar c) (scalars cs) s in
    all_append (λ d. (is_comma d ≡ false) × (scalar d ≡ true)) (written_character Scope c) (escaped_text Scope cs) (written_plain c both.0) (escaped_plain cs both.1)

-- texts that are printed with commas between them
abbrev pub ArePlain : List (List ℕ) → Type 0
ArePlain = AllByRecursion (λ cs. AllByRecursion (λ d. (is_comma d ≡ false) × (scalar d ≡ true)) cs)

onto_split : (c : ℕ) (cs rest : List ℕ) (css : List (List ℕ)) → is_comma c ≡ false → slice_split is_comma (cs ++ rest) ≡ css → slice_split is_comma ((c ∷ cs) ++ rest) ≡ onto_first c css
onto_split c cs rest css h is =
    ap (λ b. cond b ([] ∷ slice_split is_comma (cs ++ rest)) (onto_first c (slice_split is_comma (cs ++ rest)))) h ∙ ap (onto_first c) is

split_last : (cs : List ℕ) → AllByRecursion (λ d. (is_comma d ≡ false) × (scalar d ≡ true)) cs → slice_split is_comma cs ≡ cs ∷ []
split_last [] h = refl
split_last (c ∷ cs) h = ap (λ b. cond b ([] ∷ slice_split is_comma cs) (onto_first c (slice_split is_comma cs))) h.0.0 ∙ ap (onto_first c) (split_last cs h.1)

split_first : (cs rest : List ℕ) → AllByRecursion (λ d. (is_comma d ≡ false) × (scalar d ≡ true)) cs → slice_split is_comma (cs ++ comma ∷ rest) ≡ cs ∷ slice_split is_comma rest
split_first [] rest h = refl
split_first (c ∷ cs) rest h = onto_split c cs (comma ∷ rest) (cs ∷ slice_split is_comma rest) h.0.0 (split_first cs rest h.1)

split_joined : (cs : List ℕ) (css : List (List ℕ)) → ArePlain (cs ∷ css) → slice_split is_comma (comma_list (cs ∷ css)) ≡ cs ∷ css
split_joined cs [] h = split_last cs h.0
split_joined cs (ds ∷ css) h = split_first cs (comma_list (ds ∷ css)) h.0 ∙ ap (λ t. cs ∷ t) (split_joined ds css h.1)

plain-scalars : (cs : List ℕ) → AllByRecursion (λ d. (is_comma d ≡ false) × (scalar d ≡ true)) cs → scalars cs ≡ true
plain-scalars [] h = refl
plain-scalars (c ∷ cs) h = ap₂ (λ a b. a && b) h.0.1 (plain-scalars cs h.1)

joined_scalars : (css : List (List ℕ)) → ArePlain css → scalars (comma_list css) ≡ true
joined_scalars [] h = refl
joined_scalars (cs ∷ []) h = plain-scalars cs h.0
joined_scalars (cs ∷ ds ∷ css) h = append-scalars cs (comma ∷ comma_list (ds ∷ css)) (plain-scalars cs h.0) (joined_scalars (ds ∷ css) h.1)

encoded_joined : (css : List (List ℕ)) → encode_utf8_all (comma_list css) ≡ comma_list (map encode_utf8_all css)
unfolding lib.Utf8.encode
encoded_joined [] = refl
encoded_joined (cs ∷ []) = refl
encoded_joined (cs ∷ ds ∷ css) = encodes-append cs (comma ∷ comma_list (ds ∷ css)) ∙ ap (λ t. encode_utf8_all cs ++ comma ∷ t) (encoded_joined (ds ∷ css))

-- ---- printed and read again

-- the characters of each scope
spelled_of : (ks : List (List ℕ)) → AllByRecursion IsSpelled ks → List (List ℕ)
spelled_of [] h = []
spelled_of (k ∷ ks) h = h.0.spelled ∷ spelled_of ks h.1

-- the same, as they are written
pieces_of : (ks : List (List ℕ)) → AllByRecursion IsSpelled ks → List (List ℕ)
pieces_of [] h = []
pieces_of (k ∷ ks) h = escaped_text Scope h.0.spelled ∷ pieces_of ks h.1

pieces-printed_scopes : (ks : List (List ℕ)) (h : AllByRecursion IsSpelled ks) → map encode_utf8_all (pieces_of ks h) ≡ map (λ k. encode_utf8_all (escaped_text Scope (chars k))) ks
unfolding pieces_of
pieces-printed_scopes [] h = refl
pieces-printed_scopes (k ∷ ks) h = ap₂ (λ t ts. t ∷ ts) (ap (λ cs. encode_utf8_all (escaped_text Scope cs)) (sym (chars_of k h.0))) (pieces-printed_scopes ks h.1)

pieces-plain : (ks : List (List ℕ)) (h : AllByRecursion IsSpelled ks) → ArePlain (pieces_of ks h)
unfolding pieces_of
pieces-plain [] h = tt
pieces-plain (k ∷ ks) h = (escaped_plain h.0.spelled (scalars-fixed h.0.spelled h.0.fixed), pieces-plain ks h.1)

pieces-read : (ks : List (List ℕ)) (h : AllByRecursion IsSpelled ks) → read_all (unescaped_text_at Scope) (pieces_of ks h) ≡ Ok (spelled_of ks h)
unfolding pieces_of spelled_of
pieces-read [] h = refl
pieces-read (k ∷ ks) h =
    ap (read_then (λ y. read_map (λ ys. y ∷ ys) (read_all (unescaped_text_at Scope) (pieces_of ks h.1)))) (read_again Scope (is_refused Scope) (refused_free Scope) h.0.spelled)
    ∙ ap (read_map (λ ys. h.0.spelled ∷ ys)) (pieces-read ks h.1)

spelled-kept : (ks : List (List ℕ)) (h : AllByRecursion IsSpelled ks) → filter is_some_text (map folded_text (spelled_of ks h)) ≡ ks
unfolding spelled_of
spelled-kept [] h = refl
spelled-kept (k ∷ ks) h =
    ap (λ f. cond (is_some_text f) (f ∷ filter is_some_text (map folded_text (spelled_of ks h.1))) (filter is_some_text (map folded_text (spelled_of ks h.1)))) (folded_of k h.0)
    ∙ ap (λ b. cond b (k ∷ filter is_some_text (map folded_text (spelled_of ks h.1))) (filter is_some_text (map folded_text (spelled_of ks h.1)))) h.0.some
    ∙ ap (λ t. k ∷ t) (spelled-kept ks h.1)

pub none-read : scopes_of [] ≡ Ok []
unfolding scopes_of default_case_fold
none-read = ap (λ cs. read_map (λ parts. set_of (filter is_some_text (map folded_text parts))) (read_all (unescaped_text_at Scope) (slice_split is_comma cs))) chars-nil

some-read : (k : List ℕ) (ks : List (List ℕ)) → AllByRecursion IsSpelled (k ∷ ks) → IsAscending (k ∷ ks) → scopes_of (printed_scopes (k ∷ ks)) ≡ Ok (k ∷ ks)
unfolding scopes_of pieces_of
some-read k ks each ascending =
    let css = pieces_of (k ∷ ks) each in
    let plain = pieces-plain (k ∷ ks) each in
    let whole : printed_scopes (k ∷ ks) ≡ encode_utf8_all (comma_list css) = ap comma_list (sym (pieces-printed_scopes (k ∷ ks) each)) ∙ sym (encoded_joined css) in
    let same : chars (printed_scopes (k ∷ ks)) ≡ comma_list css = ap chars whole ∙ chars-encodes (comma_list css) (joined_scalars css plain) in
    let parts : slice_split is_comma (chars (printed_scopes (k ∷ ks))) ≡ css = ap (slice_split is_comma) same ∙ split_joined (escaped_text Scope each.0.spelled) (pieces_of ks each.1) plain in
    ap (λ t. read_map (λ xs. set_of (filter is_some_text (map folded_text xs))) (read_all (unescaped_text_at Scope) t)) parts
    ∙ ap (read_map (λ xs. set_of (filter is_some_text (map folded_text xs)))) (pieces-read (k ∷ ks) each)
    ∙ ap (λ t. Ok (set_of t)) (spelled-kept (k ∷ ks) each)
    ∙ ap Ok (set_itself (k ∷ ks) ascending)

pub printed_scopes-read : (ks : List (List ℕ)) → AreScopes ks → scopes_of (printed_scopes ks) ≡ Ok ks
printed_scopes-read [] a = none-read
printed_scopes-read (k ∷ ks) a = some-read k ks (each_weaker IsScope IsSpelled (k ∷ ks) spelled_from a.each) a.ascending

-- what is written as one scope is read as its key
pub written-read : (cs : List ℕ) → scalars cs ≡ true → scopes_of (encode_utf8_all (escaped_text Scope cs)) ≡ Ok (set_of (filter is_some_text (folded_text cs ∷ [])))
unfolding scopes_of
written-read cs s =
    let plain = escaped_plain cs s in
    let parts : slice_split is_comma (chars (encode_utf8_all (escaped_text Scope cs))) ≡ escaped_text Scope cs ∷ [] =
    ap (slice_split is_comma) (chars-encodes (escaped_text Scope cs) (plain-scalars (escaped_text Scope cs) plain)) ∙ split_last (escaped_text Scope cs) plain in
    ap (λ t. read_map (λ xs. set_of (filter is_some_text (map folded_text xs))) (read_all (unescaped_text_at Scope) t)) parts
    ∙ ap (λ r. read_map (λ xs. set_of (filter is_some_text (map folded_text xs))) (read_then (λ y. Ok (y ∷ [])) r)) (read_again Scope (is_refused Scope) (refused_free Scope) cs)
