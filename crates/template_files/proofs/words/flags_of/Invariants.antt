use Rattle.std.proofs.Common.{◌≡◌, drop}
use Rattle.template_files.specs.Reading.{flags_from, no_flags}
use Rattle.template_files.specs.Stops.{texts_of}
use Rattle.template_files.proofs.words.flags_of.Given as goal

-- what the other words give to the flags so far
abbrev pub invariant-loop-word : goal.invariant-loop-word
invariant-loop-word l = flags_from l.flags (texts_of (drop l.word-index l.words)) ≡ flags_from no_flags (texts_of l.words)
