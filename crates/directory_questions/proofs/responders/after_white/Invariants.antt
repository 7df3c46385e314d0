use Rattle.std.proofs.Common.{◌≡◌, length}
use Rattle.slp_text.specs.Keys.{trim_start}
use Rattle.directory_questions.proofs.responders.after_white.Given as goal

abbrev pub invariant-loop-first : goal.invariant-loop-first
invariant-loop-first l = trim_start l.rest ≡ trim_start l.text

abbrev pub decreases-loop-first : goal.decreases-loop-first
decreases-loop-first l = length l.rest
