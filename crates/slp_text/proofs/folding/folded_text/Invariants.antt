use Rattle.std.proofs.Common.{◌≡◌, ℕ, List}
use Rattle.std.specs.Prelude.{string_bytes}
use Rattle.std.specs.Str.Iter.{chars_steps}
use Rattle.caseless.specs.CaseFold.{FoldsCaseTo}
use Rattle.slp_text.specs.Keys.{key_of}
use Rattle.slp_text.specs.Squeezing.{squeezed_with}
use Rattle.slp_text.proofs.folding.folded_text.Given as goal

-- what is there and what is still to come are the key
abbrev pub invariant-loop-c : goal.invariant-loop-c
invariant-loop-c l =
    (cs : List ℕ) × FoldsCaseTo chars_steps l.c-iterator cs
    × (squeezed_with l.squeezed.begun l.squeezed.gap (string_bytes l.squeezed.text) cs ≡ key_of l.fn.text)
