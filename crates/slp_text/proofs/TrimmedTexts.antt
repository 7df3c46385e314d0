-- White space at the ends of texts is cut off.
use Rattle.std.proofs.Common.{◌≡◌, ℕ, ◌-◌, Bool, true, false, cond, List, [], ◌∷◌, ◌++◌, length, drop, Option, Some, None, refl, sym, ap, ◌∙◌, chars, encode_utf8, encode_utf8_all, arith, append_assoc, append-nil}
use Rattle.std.specs.Prelude.{reverse, IsUtf8, IfSome}
use Rattle.std.specs.Char.{IsScalar, char_set_contains}
use Rattle.std.specs.List.{AllByRecursion}
use Rattle.std.specs.Str.Pattern.{FindsPrefixBy, FindsSuffixBy, CutsPrefixes, CutsSuffixes, IsTrimStartMatches, IsTrimEndMatches}
use Rattle.std.proofs.Math.Seq.{drop-length}
use Rattle.std.proofs.lemmas.Bool.Decides.{nat_tests}
use Rattle.std.proofs.lemmas.Grind.{reverse_onto}
use Rattle.std.proofs.lemmas.List.{reverse-append, reverse-reverse, take-append-drop}
use Rattle.std.proofs.lemmas.Str.{chars-append, chars-encodes, encodes-append, encodes-chars, len_utf8_bounds}
use lib.Utf8.{scalar, scalars}
use Rattle.slp_text.specs.Ascii.{carriage_return, line_feed, space, tab}
use Rattle.slp_text.specs.Keys.{is_white, trim_start}

pub white_set : (c : ℕ) → char_set_contains (space ∷ tab ∷ line_feed ∷ carriage_return ∷ []) c ≡ is_white c
white_set c = grind (arith, nat_tests)

white-scalar : (c : ℕ) → is_white c ≡ true → scalar c ≡ true
white-scalar c h = grind (arith, nat_tests)

white-is_scalar : (c : ℕ) → is_white c ≡ true → IsScalar c
white-is_scalar c h = grind (arith, nat_tests)

abbrev AreWhite : List ℕ → Type 0
AreWhite = AllByRecursion (λ c. is_white c ≡ true)

whites-scalars : (ws : List ℕ) → AreWhite ws → scalars ws ≡ true
whites-scalars [] h = refl
whites-scalars (w ∷ ws) h = rw (white-scalar w h.0) (whites-scalars ws h.1)

chars-whites : (ws : List ℕ) → AreWhite ws → chars (encode_utf8_all ws) ≡ ws
chars-whites ws h = chars-encodes ws (whites-scalars ws h)

whites_more : (ws : List ℕ) (c : ℕ) → AreWhite ws → is_white c ≡ true → AreWhite (ws ++ c ∷ [])
whites_more [] c h w = (w, tt)
whites_more (x ∷ ws) c h w = (h.0, whites_more ws c h.1 w)

start-whites : (ws cs : List ℕ) → AreWhite ws → trim_start (ws ++ cs) ≡ trim_start cs
start-whites [] cs h = refl
start-whites (w ∷ ws) cs h = rw h.0 (start-whites ws cs h.1)

start-reversed : (ws cs : List ℕ) → AreWhite ws → trim_start (reverse ws ++ cs) ≡ trim_start cs
start-reversed [] cs h = refl
start-reversed (w ∷ ws) cs h =
    let white : trim_start (w ∷ cs) ≡ trim_start cs = rw h.0 refl in
    ap (λ xs. trim_start (xs ++ cs)) (reverse_onto ws w []) ∙ ap trim_start (append_assoc (reverse ws) (w ∷ []) cs) ∙ start-reversed ws (w ∷ cs) h.1 ∙ white

-- what a pattern of white space answers
abbrev pub FindsWhite : ((ℕ → Bool) → List ℕ → Option ℕ → Type 0) → List ℕ → Option ℕ → Type 0
FindsWhite F s o = (k : ℕ → Bool) → ((c : ℕ) → char_set_contains (space ∷ tab ∷ line_feed ∷ carriage_return ∷ []) c ≡ k c) → F k s o

-- ---- the start

first-stays : (cs r : List ℕ) → encode_utf8_all cs ≡ r → ((c : ℕ) (rest : List ℕ) → IsScalar c → r ≡ encode_utf8 c ++ rest → is_white c ≡ false) → trim_start cs ≡ cs
first-stays [] r e f = refl
first-stays (c ∷ cs) r e f =
    elim (is_white c) as (λ b. is_white c ≡ b → cond b (trim_start cs) (c ∷ cs) ≡ c ∷ cs) [
      | true ↦ λ t. let no = f c (encode_utf8_all cs) (white-is_scalar c t) (sym e) in cc
      | false ↦ λ n. refl
    ] refl

last-stays : (ds r : List ℕ) → encode_utf8_all (reverse ds) ≡ r → ((c : ℕ) (front : List ℕ) → IsScalar c → r ≡ front ++ encode_utf8 c → is_white c ≡ false) → trim_start ds ≡ ds
last-stays [] r e f = refl
last-stays (c ∷ cs) r e f =
    elim (is_white c) as (λ b. is_white c ≡ b → cond b (trim_start cs) (c ∷ cs) ≡ c ∷ cs) [
      | true ↦ λ t.
          let end = sym e ∙ ap encode_utf8_all (reverse_onto cs c []) ∙ encodes-append (reverse cs) (c ∷ []) ∙ ap (λ t. encode_utf8_all (reverse cs) ++ t) (append-nil (encode_utf8 c)) in
          let no = f c (encode_utf8_all (reverse cs)) (white-is_scalar c t) end in
          cc
      | false ↦ λ n. refl
    ] refl

-- R is what a pattern answers that looks for white space
module _ (R : List ℕ → Option ℕ → Type 0) (by : (s : List ℕ) (o : Option ℕ) → R s o → FindsPrefixBy is_white s o) where
  cut_start : (s r ns : List ℕ) → CutsPrefixes R s ns r → (ws : List ℕ) × AreWhite ws × (s ≡ encode_utf8_all ws ++ r)
  cut_start s r [] h = ([], tt, sym h)
  cut_start s r (n ∷ ns) h =
      let before = cut_start s h.0 ns h.1 in
      let found = by h.0 (Some n) h.2 in
      let split : h.0 ≡ encode_utf8 found.0 ++ r = found.2.split ∙ ap (λ t. encode_utf8 found.0 ++ t) (sym h.3) in (
        before.0 ++ found.0 ∷ [],
        whites_more before.0 found.0 before.1 found.1,
        before.2 ∙ ap (λ t. encode_utf8_all before.0 ++ t) split ∙ sym (append_assoc (encode_utf8_all before.0) (encode_utf8 found.0) r)
            ∙ ap (λ t. (encode_utf8_all before.0 ++ t) ++ r) (sym (append-nil (encode_utf8 found.0))) ∙ ap (λ t. t ++ r) (sym (encodes-append before.0 (found.0 ∷ []))),
      )

  start_left : (r : List ℕ) → IsUtf8 r → (o : Option ℕ) → FindsPrefixBy is_white r o → IfSome o (λ n. n ≡ 0) → trim_start (chars r) ≡ chars r
  start_left r u None f z = first-stays (chars r) r (encodes-chars r u) f
  start_left r u (Some n) f z = absurd (let k = (len_utf8_bounds f.0).0 in let l = f.2.ends in omega (arith, z))

  pub trimmed_start : (s r : List ℕ) → IsUtf8 r → IsTrimStartMatches R s r → chars r ≡ trim_start (chars s)
  trimmed_start s r u h =
      let cut = cut_start s r h.0.0 h.0.1 in
      let whole : chars s ≡ cut.0 ++ chars r =
      ap chars cut.2 ∙ chars-append (encode_utf8_all cut.0) r (cut.0, (whites-scalars cut.0 cut.1, refl)) ∙ ap (λ t. t ++ chars r) (chars-whites cut.0 cut.1) in
      sym (ap trim_start whole ∙ start-whites cut.0 (chars r) cut.1 ∙ start_left r u h.1.0 (by r h.1.0 h.1.1) h.1.2)

-- ---- the end

module _ (R : List ℕ → Option ℕ → Type 0) (by : (s : List ℕ) (o : Option ℕ) → R s o → FindsSuffixBy is_white s o) where
  cut_end : (s r ns : List ℕ) → CutsSuffixes R s ns r → (ws : List ℕ) × AreWhite ws × (s ≡ r ++ encode_utf8_all ws)
  cut_end s r [] h = ([], tt, sym h ∙ sym (append-nil r))
  cut_end s r (n ∷ ns) h =
      let m = h.0 in
      let before = cut_end s m ns h.1 in
      let found = by m (Some n) h.2 in
      let end : drop (length m - n) m ≡ encode_utf8 found.0 = found.2.split ∙ ap (λ t. encode_utf8 found.0 ++ t) (drop-length m) ∙ append-nil (encode_utf8 found.0) in
      let split : m ≡ r ++ encode_utf8 found.0 = sym (take-append-drop (length m - n) m) ∙ ap (λ t. t ++ drop (length m - n) m) (sym h.3) ∙ ap (λ t. r ++ t) end in (
        found.0 ∷ before.0,
        (found.1, before.1),
        before.2 ∙ ap (λ t. t ++ encode_utf8_all before.0) split ∙ append_assoc r (encode_utf8 found.0) (encode_utf8_all before.0),
      )

  end_left : (r : List ℕ) → IsUtf8 r → (o : Option ℕ) → FindsSuffixBy is_white r o → IfSome o (λ n. n ≡ 0) → trim_start (reverse (chars r)) ≡ reverse (chars r)
  end_left r u None f z = last-stays (reverse (chars r)) r (ap encode_utf8_all (reverse-reverse (chars r)) ∙ encodes-chars r u) f
  end_left r u (Some n) f z = absurd (let k = (len_utf8_bounds f.0).0 in let l = f.2.ends in omega (arith, z))

  pub trimmed_end : (s r : List ℕ) → IsUtf8 r → IsTrimEndMatches R s r → chars r ≡ reverse (trim_start (reverse (chars s)))
  trimmed_end s r u h =
      let cut = cut_end s r h.0.0 h.0.1 in
      let whole : chars s ≡ chars r ++ cut.0 = ap chars cut.2 ∙ chars-append r (encode_utf8_all cut.0) u ∙ ap (λ t. chars r ++ t) (chars-whites cut.0 cut.1) in
      let turned : reverse (chars s) ≡ reverse cut.0 ++ reverse (chars r) = ap reverse whole ∙ reverse-append (chars r) cut.0 in
      sym (ap (λ t. reverse (trim_start t)) turned ∙ ap reverse (start-reversed cut.0 (reverse (chars r)) cut.1)
      ∙ ap reverse (end_left r u h.1.0 (by r h.1.0 h.1.1) h.1.2) ∙ reverse-reverse (chars r))
