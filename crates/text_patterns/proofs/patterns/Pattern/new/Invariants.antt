use Rattle.std.proofs.Common.{◌≡◌, map, drop, chars}
use Rattle.std.specs.Prelude.{string_bytes}
use Rattle.caseless.specs.Caseless.{default_case_fold}
use Rattle.text_patterns.specs.Patterns.{pattern_of, pattern_with}
use Rattle.text_patterns.proofs.Building.{more_signs}
use Rattle.text_patterns.proofs.patterns.Pattern.new.Given as goal

-- what is there and what the pieces that are left give are the pattern
abbrev pub invariant-loop-piece : goal.invariant-loop-piece
invariant-loop-piece l =
    pattern_with l.gap l.signs.items (more_signs l.begun (map (λ piece. default_case_fold (chars (string_bytes piece))) (drop l.piece-index l.pieces))) ≡ pattern_of (map (λ piece. chars (string_bytes piece)) l.pieces)
