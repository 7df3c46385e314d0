use Rattle.template_files.proofs.SplitLines.{is_filled, NonePasses}
use Rattle.template_files.proofs.lines.after_blanks.Given as goal

-- no line so far passes
abbrev pub invariant-loop-i : goal.invariant-loop-i
invariant-loop-i l = NonePasses is_filled l.lines l.i
