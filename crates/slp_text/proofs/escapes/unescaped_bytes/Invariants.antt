use Rattle.std.proofs.Common.{true, false, drop, ◌++◌}
use Rattle.slp_text.specs.Escapes.{unescaped_bytes}
use Rattle.slp_text.specs.Steps.{IsStage}
use Rattle.slp_text.proofs.Readers.{Follows}
use Rattle.slp_text.proofs.EscapeReaders.{unescapes}
use Rattle.slp_text.proofs.escapes.unescaped_bytes.Given as goal

-- what is there and what is still to come are the text
abbrev pub invariant-loop-b : goal.invariant-loop-b
invariant-loop-b l = record {
  stage : IsStage l.stage;
  text : Follows (unescapes (λ b. true) (λ b. false)) (λ xs. l.read.items ++ xs) l.stage (drop l.b-index l.b-items) (unescaped_bytes l.fn.text);
}
