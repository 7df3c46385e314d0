use Rattle.std.proofs.Common.{◌≡◌, ℕ, List, [], length}
use Rattle.std.specs.BTreeSet as set
use Rattle.slp_text.specs.Words.{bytes_cmp}
use Rattle.template_files.specs.Reading.{after_blanks, blocks_of, definitions_from, is_defined}
use Rattle.template_files.specs.Stops.{texts_of}
use Rattle.template_files.proofs.reading.read_definitions.Given as goal

-- the definitions so far and the blocks that are left give all, no blank line comes, and the tags are those of the definitions
abbrev pub invariant-loop-first : goal.invariant-loop-first
invariant-loop-first l = record {
  read : definitions_from l.definitions.items (blocks_of (texts_of l.rest)) ≡ definitions_from [] (blocks_of (texts_of l.lines));
  skipped : after_blanks (texts_of l.rest) ≡ texts_of l.rest;
  tags : (tag : List ℕ) → set.contains bytes_cmp l.tags tag ≡ is_defined l.definitions.items tag;
}

abbrev pub decreases-loop-first : goal.decreases-loop-first
decreases-loop-first l = length l.rest
