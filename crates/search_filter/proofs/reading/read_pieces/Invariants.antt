use Rattle.std.proofs.Common.{chars}
use Rattle.std.specs.List.{slice_split}
use Rattle.slp_text.specs.Reading.{read_all}
use Rattle.slp_tags.specs.Tags.{is_star}
use Rattle.attr_values.specs.Rests.{rest_of}
use Rattle.search_filter.specs.Operands.{characters_in}
use Rattle.search_filter.proofs.PatternPieces.{left, ArePiecesSoFar}
use Rattle.search_filter.proofs.reading.read_pieces.Given as goal

-- what is there and what is still to come are the pieces
abbrev pub invariant-loop-rest : goal.invariant-loop-rest
invariant-loop-rest l = ArePiecesSoFar (read_all characters_in (slice_split is_star (chars l.fn.text))) l.pieces.items (rest_of l.rest)

abbrev pub decreases-loop-rest : goal.decreases-loop-rest
decreases-loop-rest l = left (rest_of l.rest)
