use Rattle.std.proofs.Common.{◌≡◌, length}
use Rattle.directory_questions.specs.Questions.{names}
use Rattle.directory_questions.proofs.responders.names.Given as goal

abbrev pub invariant-loop-part : goal.invariant-loop-part
invariant-loop-part l = names l.rest l.text ≡ names l.responders l.text

abbrev pub decreases-loop-part : goal.decreases-loop-part
decreases-loop-part l = length l.rest
