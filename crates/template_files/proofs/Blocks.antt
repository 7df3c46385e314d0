-- Blocks of lines are read one after the other.
use Rattle.std.proofs.Common.{◌≡◌, ◌≤◌, ℕ, Bool, true, false, cond, List, [], ◌∷◌, ◌++◌, length, Option, Some, None, Result, Err, refl, sym, ap, ◌∙◌, arith}
use Rattle.std.specs.Prelude.{not, ◌||◌}
use Rattle.std.proofs.lemmas.Bool.{true≢false}
use Rattle.std.specs.Option.{option_map_or}
use denote.Ref.{Bor}
use Rattle.std.proofs.lemmas.List.{length-map}
use Rattle.std.proofs.lemmas.List.Folds.{list_any-append}
use Rattle.slp_text.specs.Words.{bytes_eq, is_blank}
use Rattle.template_files.specs.Reading.{after_blanks, blocks_of, definition_at, definitions_from, from_blank, is_defined, to_blank}
use Rattle.template_files.specs.Stops.{texts_of}
use Rattle.srv_template.specs.declared.definition.Definition.{Definition}
use Rattle.attr_list.proofs.CutTexts.{by_test}
use Rattle.template_files.proofs.BlankLines.{block_at}

-- blank lines begin no block
pub blocks_of-after : (ls : List (List ℕ)) → blocks_of (after_blanks ls) ≡ blocks_of ls
blocks_of-after [] = refl
blocks_of-after (l ∷ ls) = by_test (is_blank l) (λ t. rw t (blocks_of-after ls)) (λ f. ap blocks_of (ap (λ b. cond b (after_blanks ls) (l ∷ ls)) f))

pub after_blanks-twice : (ls : List (List ℕ)) → after_blanks (after_blanks ls) ≡ after_blanks ls
after_blanks-twice [] = refl
after_blanks-twice (l ∷ ls) = by_test (is_blank l) (λ t. rw t (after_blanks-twice ls)) (λ f. ap after_blanks (ap (λ b. cond b (after_blanks ls) (l ∷ ls)) f))

pub after_blanks-shorter : (ls : List (List ℕ)) → length (after_blanks ls) ≤ length ls
after_blanks-shorter [] = omega arith
after_blanks-shorter (l ∷ ls) = by_test (is_blank l) (λ t. rw t (omega (arith, after_blanks-shorter ls))) (λ f. rw f (omega arith))

pub from_blank-shorter : (ls : List (List ℕ)) → length (from_blank ls) ≤ length ls
from_blank-shorter [] = omega arith
from_blank-shorter (l ∷ ls) = by_test (is_blank l) (λ t. rw t (omega arith)) (λ f. rw f (omega (arith, from_blank-shorter ls)))

-- what is left behind a block is no longer than what follows its first line
pub rest-shorter : (more after rest : List (Bor (List ℕ))) → texts_of after ≡ from_blank (texts_of more) → texts_of rest ≡ after_blanks (texts_of after) → length rest ≤ length more
rest-shorter more after rest behind left =
    omega (arith, after_blanks-shorter (texts_of after), from_blank-shorter (texts_of more), ap length left, ap length behind, length-map rest (λ l. l.now), length-map more (λ l. l.now))

-- the first of lines that no blank one precedes
pub first-filled : (l : List ℕ) (ls : List (List ℕ)) → after_blanks (l ∷ ls) ≡ l ∷ ls → is_blank l ≡ false
first-filled l ls h = by_test (is_blank l) (λ t. absurd (omega (arith, after_blanks-shorter ls, ap length (rw t at h)))) (λ f. f)

module _ (first : List ℕ) (more : List (List ℕ)) (filled : is_blank first ≡ false) (ds : List Definition) where
  first_block : blocks_of (first ∷ more) ≡ record { block = first ∷ to_blank more; left = length (first ∷ more) } ∷ blocks_of (after_blanks (from_blank more))
  first_block = block_at first more filled ∙ ap (λ bs. record { block = first ∷ to_blank more; left = length (first ∷ more) } ∷ bs) (sym (blocks_of-after (from_blank more)))

  -- what a definition, if it is one, comes to
  abbrev read_on : Option Definition → Result (List Definition) ℕ
  read_on o = option_map_or (λ d. cond (is_defined ds d.tag) (Err (length (first ∷ more))) (definitions_from (ds ++ d ∷ []) (blocks_of (after_blanks (from_blank more))))) o (Err (length (first ∷ more)))

  read-first : (o : Option Definition) → o ≡ definition_at first (to_blank more) → definitions_from ds (blocks_of (first ∷ more)) ≡ read_on o
  read-first o is = ap (definitions_from ds) first_block ∙ ap read_on (sym is)

  pub block-none : None ≡ definition_at first (to_blank more) → definitions_from ds (blocks_of (first ∷ more)) ≡ Err (length (first ∷ more))
  block-none is = read-first None is

  pub block-twice : (d : Definition) → Some d ≡ definition_at first (to_blank more) → is_defined ds d.tag ≡ true → definitions_from ds (blocks_of (first ∷ more)) ≡ Err (length (first ∷ more))
  block-twice d is twice = read-first (Some d) is ∙ ap (λ b. cond b (Err (length (first ∷ more))) (definitions_from (ds ++ d ∷ []) (blocks_of (after_blanks (from_blank more))))) twice

  pub block-more : (d : Definition) → Some d ≡ definition_at first (to_blank more) → is_defined ds d.tag ≡ false
      → definitions_from (ds ++ d ∷ []) (blocks_of (after_blanks (from_blank more))) ≡ definitions_from ds (blocks_of (first ∷ more))
  block-more d is new = sym (read-first (Some d) is ∙ ap (λ b. cond b (Err (length (first ∷ more))) (definitions_from (ds ++ d ∷ []) (blocks_of (after_blanks (from_blank more))))) new)

-- ---- the tags of definitions

either : (a b : Bool) → (a || (b || false)) ≡ cond b true a
either true true = refl
either true false = refl
either false true = refl
either false false = refl

pub is_defined-push : (ds : List Definition) (d : Definition) (tag : List ℕ) → is_defined (ds ++ d ∷ []) tag ≡ cond (bytes_eq d.tag tag) true (is_defined ds tag)
is_defined-push ds d tag = list_any-append (λ d. bytes_eq d.tag tag) ds (d ∷ []) ∙ either (is_defined ds tag) (bytes_eq d.tag tag)

pub not_false : (b : Bool) → not b ≡ false → b ≡ true
not_false true h = refl
not_false false h = absurd (true≢false h)

pub not_true : (b : Bool) → not b ≡ true → b ≡ false
not_true true h = absurd (true≢false (sym h))
not_true false h = refl
