use Rattle.std.proofs.Common.{◌≡◌, drop}
use Rattle.std.specs.Prelude.{string_bytes}
use Rattle.template_files.specs.Joining.{joined_from}
use Rattle.template_files.specs.Reading.{joined, spoken}
use Rattle.template_files.specs.Stops.{texts_of}
use Rattle.template_files.proofs.values.join.Given as goal

-- the text so far and the other lines give all
abbrev pub invariant-loop-line : goal.invariant-loop-line
invariant-loop-line l = joined_from l.begun (string_bytes l.text) (spoken (texts_of (drop l.line-index l.lines))) ≡ joined (spoken (texts_of l.lines))
