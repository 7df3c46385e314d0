use Rattle.std.proofs.Common.{◌≡◌, ℕ, List, ◌++◌, Some, map, chars}
use Rattle.std.specs.Str.Iter.{chars_steps}
use Rattle.caseless.specs.CaseFold.{FoldsCaseTo}
use Rattle.caseless.specs.Caseless.{default_case_fold}
use Rattle.slp_tags.specs.Tags.{Sign}
use Rattle.text_patterns.specs.Patterns.{pattern_with}
use Rattle.text_patterns.proofs.patterns.add_text.Given as goal

-- what is there and what is still to come of the folded text are the whole, whatever follows
abbrev pub invariant-loop-c : goal.invariant-loop-c
invariant-loop-c l =
    (cs : List ℕ) × FoldsCaseTo chars_steps l.c-iterator cs
    × ((rest : List Sign) → pattern_with l.gap l.signs.items (map Some cs ++ rest) ≡ pattern_with l.fn.gap l.fn.signs.items (map Some (default_case_fold (chars l.fn.text)) ++ rest))
