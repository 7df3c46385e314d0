-- Definitions that refuse their own default values, block after block.
use Rattle.std.proofs.Common.{◌≡◌, ℕ, false, List, ◌∷◌, ◌++◌, Option, Some, None, refl, sym, ap, ◌∙◌}
use Rattle.std.specs.Prelude.{filter_map, option_to_list}
use Rattle.std.specs.List.{cons_option}
use Rattle.slp_text.specs.Words.{is_blank}
use Rattle.template_files.specs.Defaults.{refused_among, refused_default, refused_in_lines}
use Rattle.template_files.specs.Reading.{after_blanks, from_blank, to_blank}
use Rattle.template_files.proofs.BlankLines.{block_at}
use Rattle.template_files.proofs.Blocks.{blocks_of-after}

-- blank lines name none
pub refused-after : (ls : List (List ℕ)) → refused_among (after_blanks ls) ≡ refused_among ls
refused-after ls = ap (filter_map (λ b. refused_in_lines b.block)) (blocks_of-after ls)

-- the first of some, if it is there, stands before the others
consed : {X : Type 0} (o : Option X) (xs : List X) → cons_option o xs ≡ option_to_list o ++ xs
consed None xs = refl
consed (Some x) xs = refl

-- the first definition, and those after it
pub refused-first : (first : List ℕ) (more : List (List ℕ)) → is_blank first ≡ false
    → refused_among (first ∷ more) ≡ option_to_list (refused_default first (to_blank more)) ++ refused_among (after_blanks (from_blank more))
refused-first first more filled =
    ap (filter_map (λ b. refused_in_lines b.block)) (block_at first more filled) ∙ consed (refused_default first (to_blank more)) (refused_among (from_blank more))
    ∙ ap (λ ts. option_to_list (refused_default first (to_blank more)) ++ ts) (sym (refused-after (from_blank more)))
