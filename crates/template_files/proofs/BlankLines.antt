-- Blank lines, and the blocks of lines between them.
use Rattle.std.proofs.Common.{◌≡◌, ℕ, true, false, cond, List, [], ◌∷◌, ◌++◌, refl, sym, ap, ◌∙◌, length}
use Rattle.slp_text.specs.Words.{is_blank}
use Rattle.template_files.specs.Meaning.{AreBlank, AreFilled, BeginsBlank}
use Rattle.template_files.specs.Reading.{after_blanks, blocks_from, blocks_of, from_blank, to_blank}

-- blank lines are passed over
pub past_blanks : (blanks rest : List (List ℕ)) → AreBlank blanks → after_blanks (blanks ++ rest) ≡ after_blanks rest
past_blanks [] rest h = refl
past_blanks (l ∷ ls) rest h = rw h.0 (past_blanks ls rest h.1)

-- up to a line that is not blank
pub to_line : (blanks : List (List ℕ)) (l : List ℕ) (rest : List (List ℕ)) → AreBlank blanks → is_blank l ≡ false → after_blanks (blanks ++ l ∷ rest) ≡ l ∷ rest
to_line blanks l rest h f = past_blanks blanks (l ∷ rest) h ∙ ap (λ b. cond b (after_blanks rest) (l ∷ rest)) f

-- what stands before the first line that is not blank, and that it is none
pub blanks_before : (ls : List (List ℕ)) (l : List ℕ) (rest : List (List ℕ)) → after_blanks ls ≡ l ∷ rest → (blanks : List (List ℕ)) × (ls ≡ blanks ++ l ∷ rest) × AreBlank blanks × (is_blank l ≡ false)
blanks_before [] l rest e = absurd (cc)
blanks_before (k ∷ ls) l rest e =
    elim (is_blank k) as (λ b. is_blank k ≡ b → cond b (after_blanks ls) (k ∷ ls) ≡ l ∷ rest → (blanks : List (List ℕ)) × (k ∷ ls ≡ blanks ++ l ∷ rest) × AreBlank blanks × (is_blank l ≡ false)) [
      | true ↦ λ t h. let before = blanks_before ls l rest h in (k ∷ before.0, ap (λ xs. k ∷ xs) before.1, (t, before.2), before.3)
      | false ↦ λ f h. let same : k ≡ l = cc in ([], h, tt, ap is_blank (sym same) ∙ f)
    ] refl e

-- filled lines go on to the first blank one
pub to_filled : (more rest : List (List ℕ)) → AreFilled more → BeginsBlank rest → to_blank (more ++ rest) ≡ more
to_filled [] [] f b = refl
to_filled [] (l ∷ ls) f b = rw b refl
to_filled (m ∷ ms) rest f b = rw f.0 (ap (λ xs. m ∷ xs) (to_filled ms rest f.1 b))

pub from_filled : (more rest : List (List ℕ)) → AreFilled more → BeginsBlank rest → from_blank (more ++ rest) ≡ rest
from_filled [] [] f b = refl
from_filled [] (l ∷ ls) f b = rw b refl
from_filled (m ∷ ms) rest f b = rw f.0 (from_filled ms rest f.1 b)

-- lines are those up to the first blank one, none of which is blank, and those from it on
pub parted : (ls : List (List ℕ)) → (to_blank ls ++ from_blank ls ≡ ls) × AreFilled (to_blank ls) × BeginsBlank (from_blank ls)
parted [] = (refl, tt, tt)
parted (l ∷ ls) =
    elim (is_blank l) as (λ b. is_blank l ≡ b
    → (cond b [] (l ∷ to_blank ls) ++ cond b (l ∷ ls) (from_blank ls) ≡ l ∷ ls) × AreFilled (cond b [] (l ∷ to_blank ls)) × BeginsBlank (cond b (l ∷ ls) (from_blank ls))) [
      | true ↦ λ t. (refl, tt, t)
      | false ↦ λ f. let p = parted ls in (ap (λ xs. l ∷ xs) p.0, (f, p.1), p.2)
    ] refl

-- ---- blocks

-- inside of a block, others come from the first blank line on
pub blocks_inside : (ls : List (List ℕ)) → blocks_from true ls ≡ blocks_of (from_blank ls)
blocks_inside [] = refl
blocks_inside (l ∷ ls) =
    elim (is_blank l) as (λ b. is_blank l ≡ b → cond b (blocks_of ls) (blocks_from true ls) ≡ blocks_of (cond b (l ∷ ls) (from_blank ls))) [
      | true ↦ λ t. sym (ap (λ b. cond b (blocks_of ls) (record { block = l ∷ to_blank ls; left = length (l ∷ ls) } ∷ blocks_from true ls)) t)
      | false ↦ λ f. blocks_inside ls
    ] refl

-- blank lines are in no block
pub blocks_past : (blanks rest : List (List ℕ)) → AreBlank blanks → blocks_of (blanks ++ rest) ≡ blocks_of rest
blocks_past [] rest h = refl
blocks_past (l ∷ ls) rest h = rw h.0 (blocks_past ls rest h.1)

pub no_blocks : (ls : List (List ℕ)) → AreBlank ls → blocks_of ls ≡ []
no_blocks [] h = refl
no_blocks (l ∷ ls) h = rw h.0 (no_blocks ls h.1)

-- a block begins at a line that is not blank
pub block_at : (l : List ℕ) (ls : List (List ℕ)) → is_blank l ≡ false → blocks_of (l ∷ ls) ≡ record { block = l ∷ to_blank ls; left = length (l ∷ ls) } ∷ blocks_of (from_blank ls)
block_at l ls f =
    ap (λ b. cond b (blocks_of ls) (record { block = l ∷ to_blank ls; left = length (l ∷ ls) } ∷ blocks_from true ls)) f
    ∙ ap (λ bs. record { block = l ∷ to_blank ls; left = length (l ∷ ls) } ∷ bs) (blocks_inside ls)

-- the first block is that of lines that are not blank, between blank ones
first_at : (l : List ℕ) (more rest all : List (List ℕ)) → all ≡ more ++ rest → AreFilled (l ∷ more) → BeginsBlank rest
    → blocks_of (l ∷ all) ≡ record { block = l ∷ more; left = length (l ∷ all) } ∷ blocks_of rest
first_at l more rest all e f b =
    let to : to_blank all ≡ more = ap to_blank e ∙ to_filled more rest f.1 b in
    let from : from_blank all ≡ rest = ap from_blank e ∙ from_filled more rest f.1 b in
    block_at l all f.0
    ∙ ap (λ xs. record { block = l ∷ xs; left = length (l ∷ all) } ∷ blocks_of (from_blank all)) to
    ∙ ap (λ xs. record { block = l ∷ more; left = length (l ∷ all) } ∷ blocks_of xs) from

pub first_block : (blanks : List (List ℕ)) (l : List ℕ) (more rest : List (List ℕ)) → AreBlank blanks → AreFilled (l ∷ more) → BeginsBlank rest
    → blocks_of (blanks ++ l ∷ (more ++ rest)) ≡ record { block = l ∷ more; left = length (l ∷ (more ++ rest)) } ∷ blocks_of rest
first_block blanks l more rest h f b = blocks_past blanks (l ∷ (more ++ rest)) h ∙ first_at l more rest (more ++ rest) refl f b
