use Rattle.std.proofs.Common.{◌≡◌, ◌++◌, length}
use Rattle.template_files.specs.Defaults.{refused_among}
use Rattle.template_files.specs.Reading.{after_blanks}
use Rattle.template_files.specs.Stops.{texts_of}
use Rattle.template_files.proofs.defaults.refused_in.Given as goal

-- the tags so far and those of the blocks that are left are all, and no blank line comes
abbrev pub invariant-loop-first : goal.invariant-loop-first
invariant-loop-first l = record {
  read : l.tags.items ++ refused_among (texts_of l.rest) ≡ refused_among (texts_of l.lines);
  skipped : after_blanks (texts_of l.rest) ≡ texts_of l.rest;
}

abbrev pub decreases-loop-first : goal.decreases-loop-first
decreases-loop-first l = length l.rest
