-- Folding and squeezing again what is folded and squeezed changes nothing.
use Rattle.std.proofs.Common.{◌≡◌, ℕ, Bool, true, false, cond, List, [], ◌∷◌, ◌++◌, length, refl, sym, ap, ap₂, subst, ◌∙◌, chars, encode_utf8_all, eqb-true, arith}
use Rattle.std.specs.Prelude.{◌&&◌, ◌==◌, flat_map, IsUtf8}
use Rattle.std.specs.List.{list_all, AllByRecursion}
use Rattle.std.proofs.lemmas.Bool.{and_parts}
use Rattle.std.proofs.lemmas.Str.{chars-encodes, scalars-chars}
use lib.Utf8.{scalar, scalars}
use Rattle.ucd_table.proofs.Computing.{tables}
use Rattle.ucd_table.proofs.Facts.{tree_value-tree_of}
use Rattle.ucd_table.proofs.RangedFacts.{values_ok, at_values, Stepped-at_values}
use Rattle.ucd_case.specs.CaseFolding.{full_folding, full_fold, or_itself}
use Rattle.ucd_case.proofs.CaseFoldingLemmas.{full_folding_stepped}
use Rattle.caseless.specs.Caseless.{default_case_fold}
use Rattle.slp_text.specs.Ascii.{space}
use Rattle.slp_text.specs.Keys.{is_white, trim_start, squeezed_rest, squeezed_text, key_of, folded_text}

-- ---- folding

-- each character of a folding is one, and has no folding
abbrev is_settled : (ℕ → List ℕ) → List ℕ → Bool
is_settled table v = list_all (λ d. (length (table d) == 0) && scalar d) v

all_settled : (c : ℕ) → is_settled full_folding (full_folding c) ≡ true
unfolding tables values_ok full_folding_stepped
all_settled =
    Stepped-at_values full_folding full_folding_stepped (is_settled full_folding)
    (subst (λ f. at_values full_folding full_folding_stepped (is_settled f) ≡ true) (sym (tree_value-tree_of full_folding full_folding_stepped)) refl)

-- a character that folds to itself
abbrev pub IsFixed : ℕ → Type 0
IsFixed d = (full_fold d ≡ d ∷ []) × (scalar d ≡ true)

empty_folding : (d : ℕ) (v : List ℕ) → (length v == 0) ≡ true → or_itself d v ≡ d ∷ []
empty_folding d [] h = refl
empty_folding d (x ∷ xs) h = absurd (let none : length (x ∷ xs) ≡ 0 = eqb-true (length (x ∷ xs)) 0 h in omega (arith, none))

fixed_each : (v : List ℕ) → is_settled full_folding v ≡ true → AllByRecursion IsFixed v
fixed_each [] h = tt
fixed_each (d ∷ ds) h =
    let both = and_parts ((length (full_folding d) == 0) && scalar d) (is_settled full_folding ds) h in
    let one = and_parts (length (full_folding d) == 0) (scalar d) both.0 in
    ((empty_folding d (full_folding d) one.0, one.1), fixed_each ds both.1)

fixed_fold : (c : ℕ) → scalar c ≡ true → AllByRecursion IsFixed (full_fold c)
fixed_fold c s =
    elim (full_folding c) as (λ v. full_folding c ≡ v → AllByRecursion IsFixed (or_itself c v)) [
      | [] ↦ λ e. ((ap (or_itself c) e, s), tt)
      | x ∷ xs ↦ λ e. fixed_each (x ∷ xs) (ap (is_settled full_folding) (sym e) ∙ all_settled c)
    ] refl

all_append : (P : ℕ → Type 0) (xs ys : List ℕ) → AllByRecursion P xs → AllByRecursion P ys → AllByRecursion P (xs ++ ys)
all_append P [] ys p q = q
all_append P (x ∷ xs) ys p q = (p.0, all_append P xs ys p.1 q)

fixed_folds : (cs : List ℕ) → scalars cs ≡ true → AllByRecursion IsFixed (flat_map full_fold cs)
fixed_folds [] s = tt
fixed_folds (c ∷ cs) s =
    let both = and_parts (scalar c) (scalars cs) s in
    all_append IsFixed (full_fold c) (flat_map full_fold cs) (fixed_fold c both.0) (fixed_folds cs both.1)

pub fold-fixed : (xs : List ℕ) → AllByRecursion IsFixed xs → flat_map full_fold xs ≡ xs
fold-fixed [] f = refl
fold-fixed (x ∷ xs) f = ap₂ (λ a b. a ++ b) f.0.0 (fold-fixed xs f.1)

pub scalars-fixed : (xs : List ℕ) → AllByRecursion IsFixed xs → scalars xs ≡ true
scalars-fixed [] f = refl
scalars-fixed (x ∷ xs) f = ap₂ (λ a b. a && b) f.0.1 (scalars-fixed xs f.1)

-- ---- squeezing

from_keeps : (P : ℕ → Type 0) → P space → (gap : Bool) (cs : List ℕ) → AllByRecursion P cs → AllByRecursion P (squeezed_rest gap cs)
from_keeps P b gap [] h = tt
from_keeps P b gap (c ∷ cs) h =
    elim (is_white c) as (λ w. AllByRecursion P (cond w (squeezed_rest true cs) (cond gap (space ∷ c ∷ squeezed_rest false cs) (c ∷ squeezed_rest false cs)))) [
      | true ↦ from_keeps P b true cs h.1
      | false ↦ elim gap as (λ g. AllByRecursion P (cond g (space ∷ c ∷ squeezed_rest false cs) (c ∷ squeezed_rest false cs))) [
        | true ↦ (b, (h.0, from_keeps P b false cs h.1))
        | false ↦ (h.0, from_keeps P b false cs h.1)
      ]
    ]

trim_keeps : (P : ℕ → Type 0) (cs : List ℕ) → AllByRecursion P cs → AllByRecursion P (trim_start cs)
trim_keeps P [] h = tt
trim_keeps P (c ∷ cs) h = elim (is_white c) as (λ w. AllByRecursion P (cond w (trim_start cs) (c ∷ cs))) [ true ↦ trim_keeps P cs h.1 | false ↦ h ]

from_again : (gap : Bool) (cs : List ℕ) → squeezed_rest false (squeezed_rest gap cs) ≡ squeezed_rest gap cs
from_again gap [] = refl
from_again gap (c ∷ cs) =
    elim (is_white c) as (λ w. is_white c ≡ w → squeezed_rest false (cond w (squeezed_rest true cs) (cond gap (space ∷ c ∷ squeezed_rest false cs) (c ∷ squeezed_rest false cs))) ≡ cond w (squeezed_rest true cs) (cond gap (space ∷ c ∷ squeezed_rest false cs) (c ∷ squeezed_rest false cs))) [
      | true ↦ λ t. from_again true cs
      | false ↦ λ f. elim gap as (λ g. squeezed_rest false (cond g (space ∷ c ∷ squeezed_rest false cs) (c ∷ squeezed_rest false cs)) ≡ cond g (space ∷ c ∷ squeezed_rest false cs) (c ∷ squeezed_rest false cs)) [
        | true ↦
            ap (λ w. cond w (squeezed_rest true (squeezed_rest false cs)) (space ∷ c ∷ squeezed_rest false (squeezed_rest false cs))) f
            ∙ ap (λ ds. space ∷ c ∷ ds) (from_again false cs)
        | false ↦
            ap (λ w. cond w (squeezed_rest true (squeezed_rest false cs)) (c ∷ squeezed_rest false (squeezed_rest false cs))) f
            ∙ ap (λ ds. c ∷ ds) (from_again false cs)
      ]
    ] refl

pub squeeze_again : (cs : List ℕ) → squeezed_text (squeezed_text cs) ≡ squeezed_text cs
squeeze_again [] = refl
squeeze_again (c ∷ cs) =
    elim (is_white c) as (λ w. is_white c ≡ w → squeezed_text (squeezed_rest false (cond w (trim_start cs) (c ∷ cs))) ≡ squeezed_rest false (cond w (trim_start cs) (c ∷ cs))) [
      | true ↦ λ t. squeeze_again cs
      | false ↦ λ f.
          let first : squeezed_rest false (c ∷ cs) ≡ c ∷ squeezed_rest false cs = ap (λ w. cond w (squeezed_rest true cs) (c ∷ squeezed_rest false cs)) f in
          let rest : squeezed_text (c ∷ squeezed_rest false cs) ≡ c ∷ squeezed_rest false cs =
          ap (λ w. squeezed_rest false (cond w (trim_start (squeezed_rest false cs)) (c ∷ squeezed_rest false cs))) f
          ∙ ap (λ w. cond w (squeezed_rest true (squeezed_rest false cs)) (c ∷ squeezed_rest false (squeezed_rest false cs))) f
          ∙ ap (λ ds. c ∷ ds) (from_again false cs) in
          ap squeezed_text first ∙ rest ∙ sym first
    ] refl

-- ---- keys

blank_fixed : IsFixed space
unfolding tables full_folding_stepped
blank_fixed = (ap (λ f. or_itself space (f space)) (tree_value-tree_of full_folding full_folding_stepped), refl)

-- the characters of a key
abbrev pub key_chars : List ℕ → List ℕ
key_chars cs = squeezed_text (flat_map full_fold cs)

pub fixed_key : (cs : List ℕ) → scalars cs ≡ true → AllByRecursion IsFixed (key_chars cs)
fixed_key cs s = from_keeps IsFixed blank_fixed false (trim_start (flat_map full_fold cs)) (trim_keeps IsFixed (flat_map full_fold cs) (fixed_folds cs s))

pub key_chars-again : (cs : List ℕ) → scalars cs ≡ true → key_chars (key_chars cs) ≡ key_chars cs
key_chars-again cs s = ap squeezed_text (fold-fixed (key_chars cs) (fixed_key cs s)) ∙ squeeze_again (flat_map full_fold cs)

pub key_of-chars : (text : List ℕ) → key_of text ≡ encode_utf8_all (key_chars (chars text))
unfolding key_of default_case_fold
key_of-chars text = refl

pub key-again : (text : List ℕ) → IsUtf8 text → key_of (key_of text) ≡ key_of text
key-again text u =
    let s = scalars-chars text u in
    ap key_of (key_of-chars text)
    ∙ key_of-chars (encode_utf8_all (key_chars (chars text)))
    ∙ ap (λ cs. encode_utf8_all (key_chars cs)) (chars-encodes (key_chars (chars text)) (scalars-fixed (key_chars (chars text)) (fixed_key (chars text) s)))
    ∙ ap encode_utf8_all (key_chars-again (chars text) s)
    ∙ sym (key_of-chars text)

pub key_of-folded_text : (k : List ℕ) → key_of k ≡ folded_text (chars k)
unfolding key_of
key_of-folded_text k = refl
