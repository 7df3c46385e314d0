use Rattle.template_files.specs.Reading.{is_help}
use Rattle.template_files.proofs.SplitLines.{NonePasses}
use Rattle.template_files.proofs.values.split_at_help.Given as goal

-- no line so far passes
abbrev pub invariant-loop-i : goal.invariant-loop-i
invariant-loop-i l = NonePasses is_help l.lines l.i
