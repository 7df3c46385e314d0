use Rattle.std.proofs.Common.{◌≡◌, length}
use Rattle.std.specs.Prelude.{reverse}
use Rattle.slp_text.specs.Keys.{trim_start, trimmed_text}
use Rattle.directory_questions.proofs.responders.trimmed.Given as goal

abbrev pub invariant-loop-last : goal.invariant-loop-last
invariant-loop-last l = reverse (trim_start (reverse l.rest)) ≡ trimmed_text l.text

abbrev pub decreases-loop-last : goal.decreases-loop-last
decreases-loop-last l = length l.rest
