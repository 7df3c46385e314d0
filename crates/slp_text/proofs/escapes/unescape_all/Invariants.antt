use Rattle.std.proofs.Common.{◌≡◌, ℕ, true, List, ◌++◌, encode_utf8_all, chars}
use Rattle.std.specs.Str.Iter.{chars_rest}
use Rattle.slp_text.specs.Steps.{IsStage}
use Rattle.slp_text.specs.declared.escapes.Stage.TheVariants.{Plain}
use Rattle.slp_text.proofs.Readers.{Follows}
use Rattle.slp_text.proofs.EscapeReaders.{unescapes}
use Rattle.slp_text.proofs.escapes.unescape_all.Given as goal

-- what is there and what is still to come are the bytes
abbrev pub invariant-loop-c : goal.invariant-loop-c
invariant-loop-c l = record {
  stage : IsStage l.stage;
  text : (cs : List ℕ) × (encode_utf8_all cs ≡ chars_rest l.c-iterator)
      × Follows (unescapes (λ b. true) (λ c. true)) (λ xs. l.read.items ++ xs) l.stage cs (unescapes (λ b. true) (λ c. true) Plain (chars l.fn.text));
}
