use Rattle.slp_text.specs.Words.{is_blank}
use Rattle.template_files.proofs.SplitLines.{NonePasses}
use Rattle.template_files.proofs.lines.split_at_blank.Given as goal

-- no line so far passes
abbrev pub invariant-loop-i : goal.invariant-loop-i
invariant-loop-i l = NonePasses is_blank l.lines l.i
