-- The line that begins a block.
use Rattle.std.proofs.Common.{◌≡◌, ◌<◌, Bool, true, false, Option, Some, None, length, refl, subst, arith}
use Rattle.std.specs.Prelude.{◌==◌, if◌then◌else◌}
use Rattle.std.specs.Option.{option_or}
use Rattle.std.specs.Cmp.Lexicographic.{pointwise, same_text}
use Rattle.std.proofs.lemmas.Option.{none-some, same_Some}
use Rattle.slp_script.specs.Lines.{Line}
use Rattle.slp_script.specs.Commands.{block_of, longest_line, word_of}
use Rattle.slp_script.specs.declared.command.Block.{Block}
use Rattle.slp_script.specs.declared.command.Block.TheVariants.{Config, Template, Rules}

-- the word of one block alone
by_word : (t : Bool) (l : Line) (a b : Block) → t ≡ pointwise ◌==◌ l (word_of a) → (if t then Some a else None) ≡ Some b → l ≡ word_of b
by_word true l a b e is = subst (λ k. l ≡ word_of k) (same_Some a b is) (same_text l (word_of a) e)
by_word false l a b e is = absurd (none-some b is)

-- the word of one block, or else what is said of another
by_test : (t : Bool) (l : Line) (a b : Block) (other : Option Block) → t ≡ pointwise ◌==◌ l (word_of a) → (other ≡ Some b → l ≡ word_of b) → option_or (if t then Some a else None) other ≡ Some b → l ≡ word_of b
by_test true l a b other e otherwise is = by_word true l a b e is
by_test false l a b other e otherwise is = otherwise is

-- it is the block's word
pub word-of_block : (l : Line) (b : Block) → block_of l ≡ Some b → l ≡ word_of b
word-of_block l b is =
    by_test (pointwise ◌==◌ l (word_of Config)) l Config b _ refl
    (by_test (pointwise ◌==◌ l (word_of Template)) l Template b _ refl (by_word (pointwise ◌==◌ l (word_of Rules)) l Rules b refl)) is

long_word : (b : Block) → longest_line < length (word_of b) → ⊥
long_word Config h = omega (arith, h)
long_word Template h = omega (arith, h)
long_word Rules h = omega (arith, h)

none_of : (o : Option Block) (l : Line) → block_of l ≡ o → longest_line < length l → o ≡ None
none_of None l is h = refl
none_of (Some b) l is h = absurd (long_word b (subst (λ v. longest_line < length v) (word-of_block l b is) h))

-- and no line that is too long
pub too_long-block : (l : Line) → longest_line < length l → block_of l ≡ None
too_long-block l h = none_of (block_of l) l refl h
