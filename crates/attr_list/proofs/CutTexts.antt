-- Texts that are cut at a character, by their characters.
use Rattle.std.proofs.Common.{◌≡◌, ℕ, Bool, true, false, cond, List, [], ◌∷◌, ◌++◌, length, take, drop, Option, Some, None, refl, sym, ap, subst, ◌∙◌, chars, encode_utf8, encode_utf8_all, eqb-true, arith, take-append-drop}
use Rattle.std.specs.Prelude.{◌==◌, IsUtf8, MatchOption}
use Rattle.std.specs.Str.{IsCharBoundary, NonePass}
use Rattle.std.specs.Str.Pattern.{FindsChar, FindsCharPrefix, SplitsAroundMatch, StripsPrefix}
use Rattle.std.proofs.lemmas.Bool.{and_parts}
use Rattle.std.proofs.lemmas.Str.{chars-encodes, chars-nil, chars_from_encodes, chars_past_char, encodes-append, encodes-chars, scalars-chars, IsUtf8-drop}
use lib.Utf8.{scalar, scalars}
use denote.Ref.{Bor}
use Rattle.attr_values.specs.Rests.{rest_after, rest_of}
use Rattle.attr_list.specs.Pieces.{part_after, part_before, IsShorter}

-- a test that holds, or one that does not
pub by_test : {P : Type 0} (b : Bool) → (b ≡ true → P) → (b ≡ false → P) → P
by_test true f g = f refl
by_test false f g = g refl

-- ---- lists of characters

-- what stands before the mark is all, where no character is the mark
before-none : (mark : ℕ) (cs : List ℕ) → NonePass (λ d. d == mark) cs → part_before mark cs ≡ cs
before-none mark [] h = refl
before-none mark (c ∷ cs) h = rw h.0 (ap (λ ds. c ∷ ds) (before-none mark cs h.1))

-- nothing comes after it then
after-none : (mark : ℕ) (cs : List ℕ) → NonePass (λ d. d == mark) cs → part_after mark cs ≡ None
after-none mark [] h = refl
after-none mark (c ∷ cs) h = rw h.0 (after-none mark cs h.1)

-- what stands before the first mark
before-some : (mark : ℕ) (cs more : List ℕ) → NonePass (λ d. d == mark) cs → part_before mark (cs ++ mark ∷ more) ≡ cs
before-some mark [] more h = let t : (mark == mark) ≡ true = grind arith in rw t refl
before-some mark (c ∷ cs) more h = rw h.0 (ap (λ ds. c ∷ ds) (before-some mark cs more h.1))

-- what comes after the first mark
after-some : (mark : ℕ) (cs more : List ℕ) → NonePass (λ d. d == mark) cs → part_after mark (cs ++ mark ∷ more) ≡ Some more
after-some mark [] more h = let t : (mark == mark) ≡ true = grind arith in rw t refl
after-some mark (c ∷ cs) more h = rw h.0 (after-some mark cs more h.1)

-- the first characters of a text are characters
first_scalars : (xs ys : List ℕ) → scalars (xs ++ ys) ≡ true → scalars xs ≡ true
first_scalars [] ys h = refl
first_scalars (x ∷ xs) ys h = let both = and_parts (scalar x) (scalars (xs ++ ys)) h in rw both.0 (first_scalars xs ys both.1)

-- what is left is shorter than one more
pub shorter-more : (o : Option (List ℕ)) (c : ℕ) (cs : List ℕ) → IsShorter o cs → IsShorter o (c ∷ cs)
shorter-more None c cs h = tt
shorter-more (Some more) c cs h = omega arith

-- what comes after a mark is shorter
pub after-shorter : (mark : ℕ) (cs : List ℕ) → IsShorter (part_after mark cs) cs
after-shorter mark [] = tt
after-shorter mark (c ∷ cs) =
    elim (c == mark) as (λ b. IsShorter (cond b (Some cs) (part_after mark cs)) (c ∷ cs)) [
      | true ↦ omega arith
      | false ↦ shorter-more (part_after mark cs) c cs (after-shorter mark cs)
    ]

-- ---- a text that is split

-- a text with a mark, cut at the first
record IsCut (mark : ℕ) (s front back : List ℕ) : Type 0 where
  whole : chars s ≡ chars front ++ mark ∷ chars back
  none : NonePass (λ d. d == mark) (chars front)

-- the parts that were found are the characters round the mark
cut_found : (mark : ℕ) (s front back : List ℕ) → IsUtf8 s → SplitsAroundMatch (FindsChar mark) s front back → IsCut mark s front back
cut_found mark s front back u h =
    let i = h.0 in
    let j = h.1 in
    let found = h.2 in
    let cs = found.0.0 in
    let at = found.1 in
    let v : IsUtf8 back = subst IsUtf8 (sym h.4) (IsUtf8-drop s j u (subst (λ k. IsCharBoundary s k) (sym at.ends) at.after)) in
    let rest : drop i s ≡ encode_utf8 mark ++ back = at.split ∙ ap (λ t. encode_utf8 mark ++ t) (sym h.4) in
    let spelled : encode_utf8_all (cs ++ mark ∷ chars back) ≡ s =
    encodes-append cs (mark ∷ chars back) ∙ ap (λ t. t ++ (encode_utf8 mark ++ encode_utf8_all (chars back))) found.0.1
    ∙ ap (λ t. take i s ++ (encode_utf8 mark ++ t)) (encodes-chars back v) ∙ ap (λ t. take i s ++ t) (sym rest) ∙ take-append-drop i s in
    let all : cs ++ mark ∷ chars back ≡ chars s = chars_from_encodes (cs ++ mark ∷ chars back) s u spelled in
    let same : chars front ≡ cs = ap chars (h.3 ∙ sym found.0.1) ∙ chars-encodes cs (first_scalars cs (mark ∷ chars back) (ap scalars all ∙ scalars-chars s u)) in
    record {
      whole = sym all ∙ ap (λ ds. ds ++ mark ∷ chars back) (sym same);
      none = subst (NonePass (λ d. d == mark)) (sym same) found.0.2;
    }

-- what stands before the first mark of a text that has one
pub split-before : (mark : ℕ) (s front back : List ℕ) → IsUtf8 s → SplitsAroundMatch (FindsChar mark) s front back → chars front ≡ part_before mark (chars s)
split-before mark s front back u h =
    let cut = cut_found mark s front back u h in
    sym (ap (part_before mark) cut.whole ∙ before-some mark (chars front) (chars back) cut.none)

-- what comes after it
pub split-after : (mark : ℕ) (s front back : List ℕ) → IsUtf8 s → SplitsAroundMatch (FindsChar mark) s front back → Some (chars back) ≡ part_after mark (chars s)
split-after mark s front back u h =
    let cut = cut_found mark s front back u h in
    sym (ap (part_after mark) cut.whole ∙ after-some mark (chars front) (chars back) cut.none)

-- what stands before the first mark of a text that has none
pub unsplit-before : (mark : ℕ) (s : List ℕ) → IsUtf8 s → FindsChar mark s None → chars s ≡ part_before mark (chars s)
unsplit-before mark s u h = sym (before-none mark (chars s) (subst (NonePass (λ d. d == mark)) (chars_from_encodes h.0 s u h.1) h.2))

-- nothing comes after it
pub unsplit-after : (mark : ℕ) (s : List ℕ) → IsUtf8 s → FindsChar mark s None → None ≡ part_after mark (chars s)
unsplit-after mark s u h = sym (after-none mark (chars s) (subst (NonePass (λ d. d == mark)) (chars_from_encodes h.0 s u h.1) h.2))

-- ---- a text whose first character is taken off

-- a text that does not begin with a mark
not_taken : (mark : ℕ) (cs s : List ℕ) → encode_utf8_all cs ≡ s → ((rest : List ℕ) → s ≡ encode_utf8 mark ++ rest → ⊥) → None ≡ rest_after (λ c. c == mark) cs
not_taken mark [] s e f = refl
not_taken mark (c ∷ cs) s e f =
    elim (c == mark) as (λ b. (c == mark) ≡ b → None ≡ cond b (Some cs) None) [
      | true ↦ λ t. absurd (f (encode_utf8_all cs) (sym e ∙ ap (λ d. encode_utf8 d ++ encode_utf8_all cs) (eqb-true c mark t)))
      | false ↦ λ n. refl
    ] refl

-- what comes after a mark with which a text begins
pub after-mark : (mark : ℕ) (s : List ℕ) (r : Option (Bor (List ℕ))) → IsUtf8 s → MatchOption r (FindsCharPrefix mark s None) (λ x. StripsPrefix (FindsCharPrefix mark) s x.now)
    → rest_of r ≡ rest_after (λ c. c == mark) (chars s)
after-mark mark s None u h = not_taken mark (chars s) s (encodes-chars s u) h
after-mark mark s (Some x) u h =
    let split : s ≡ encode_utf8 mark ++ x.now = h.1.split ∙ ap (λ t. encode_utf8 mark ++ t) (sym h.2) in
    let t : (mark == mark) ≡ true = grind arith in
    rw (chars_past_char s x.now mark u split, t) refl

-- ---- an empty text

-- a text of no bytes has no characters
pub empty-chars : (s : List ℕ) → IsUtf8 s → (length s == 0) ≡ true → chars s ≡ []
empty-chars [] u h = chars-nil
empty-chars (b ∷ s) u h = absurd (let none : length (b ∷ s) ≡ 0 = eqb-true (length (b ∷ s)) 0 h in omega (arith, none))

-- a text of some bytes has characters
pub some-chars : (s : List ℕ) → IsUtf8 s → (length s == 0) ≡ false → chars s ≡ [] → ⊥
some-chars s u h none =
    let nothing : [] ≡ s = ap encode_utf8_all (sym none) ∙ encodes-chars s u in
    let t : (length s == 0) ≡ true = ap (λ t. length t == 0) (sym nothing) in
    cc
