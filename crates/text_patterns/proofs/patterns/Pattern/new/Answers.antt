use Rattle.std.proofs.Common.{◌≡◌, Bool, List, ◌∷◌, refl, sym, append-nil, ◌<◌, ◌+◌, ◌++◌, Some, true, false, [], map, drop, length, ap, ◌∙◌, chars, arith}
use Rattle.std.specs.Prelude.{string_bytes}
use Rattle.std.proofs.lemmas.List.{drop_all}
use Rattle.std.proofs.lemmas.Result.{err_from_is_err_and}
use Rattle.caseless.specs.Caseless.{default_case_fold}
use Rattle.slp_tags.specs.Tags.{Sign, signs_of}
use Rattle.text_patterns.specs.Patterns.{pattern_of, pattern_with}
use Rattle.text_patterns.proofs.Building.{more_signs}
use Rattle.text_patterns.proofs.Pieces.{folded_pieces, next_piece, pattern_with-start, piece-other, piece-one}
use Rattle.text_patterns.proofs.patterns.Pattern.new.Goals as goal
use Rattle.text_patterns.proofs.patterns.Pattern.new.Goals.{then-begun+in_ok-gap, else-begun}

pub loop-piece-init : goal.loop-piece-init
loop-piece-init c =
    pattern_with-start c.new-signs.result.items _ c.new-signs.ensures.items
    ∙ ap (λ ps. pattern_with false [] (signs_of ps)) (folded_pieces (λ piece. chars (string_bytes piece)) c.args.pieces.now)

pub loop-piece-preserved : goal.loop-piece-preserved
loop-piece-preserved c =
    let pieces = c.args.pieces.now in
    let i = c.loop-piece.piece-index in
    let some : i < length pieces = omega arith in
    let one = c.piece-item.result in
    let later = map (λ piece. default_case_fold (chars (string_bytes piece))) (drop (i + 1) pieces) in
    let cut = next_piece (λ piece. default_case_fold (chars (string_bytes piece))) pieces i one some c.piece-item.is in
    let all = pattern_of (map (λ piece. chars (string_bytes piece)) pieces) in
    c.in_ok-gap-2.ensures (more_signs true later)
    ∙ ap (λ text. pattern_with c.if-begun.gap c.if-begun.signs.items (map Some (default_case_fold (chars text)) ++ more_signs true later)) c.as_str.ensures.value
    ∙ elim c.if-begun.branch [
      | then-begun+in_ok-gap w ↦ piece-other c.loop-piece.begun c.loop-piece.gap c.if-begun.gap c.loop-piece.signs.items c.if-begun.signs.items (default_case_fold (chars (string_bytes one))) later _ all cut w.if-begun.true
          (λ rest. ap (λ g. pattern_with g c.if-begun.signs.items rest) w.gap-is ∙ ap (λ v. pattern_with w.in_ok-gap.gap v.items rest) w.signs-is ∙ w.in_ok-gap.ensures rest) c.loop-piece.invariant
      | else-begun w ↦ piece-one c.loop-piece.begun c.loop-piece.gap c.if-begun.gap c.loop-piece.signs.items c.if-begun.signs.items (default_case_fold (chars (string_bytes one))) later _ all cut w.if-begun.false
          w.gap-is (ap (λ v. v.items) w.signs-is) c.loop-piece.invariant
    ]

-- with nothing still to come the pattern is what is there
ended : (begun gap : Bool) (signs : List Sign) → pattern_with gap signs (more_signs begun []) ≡ signs
ended true gap [] = refl
ended true gap (s ∷ ss) = append-nil (s ∷ ss)
ended false gap [] = refl
ended false gap (s ∷ ss) = append-nil (s ∷ ss)

pub returns : goal.returns
returns c =
    let now = c.loop-piece.invariant in
    let none = drop_all c.loop-piece.piece-index c.args.pieces.now c.loop-piece-test.false in
    let all = rw none at now in
    c.in_ok-signs.ensures ∙ c.deref.ensures.value ∙ sym (ended c.loop-piece.begun c.loop-piece.gap c.loop-piece.signs.items) ∙ all

pub returns-in_err-gap : goal.returns-in_err-gap
returns-in_err-gap c = let p = err_from_is_err_and c.from_residual.result c.from_residual.ensures.1 in rw p.1 tt

pub returns-in_err-gap-2 : goal.returns-in_err-gap-2
returns-in_err-gap-2 c = let p = err_from_is_err_and c.from_residual-in_err-gap-2.result c.from_residual-in_err-gap-2.ensures.1 in rw p.1 tt

pub returns-in_err-signs : goal.returns-in_err-signs
returns-in_err-signs c = let p = err_from_is_err_and c.from_residual-in_err-signs.result c.from_residual-in_err-signs.ensures.1 in rw p.1 tt
