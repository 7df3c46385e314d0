use Rattle.std.proofs.Common.{List, ℕ, [], ◌++◌, refl, sym, ap, subst, ◌∙◌, append_assoc}
use Rattle.std.proofs.lemmas.Result.{on_ok_weaker}
use Rattle.std.specs.Io.KnownBytes.{Appends}
use Rattle.hex.specs.Hex.{encode_lower, encode_with, lower_digits}
use Rattle.replay_program.proofs.Digits.{encoded-append}
use Rattle.replay_program.proofs.Transfers.{Appends-none, Appends-append}
use Rattle.replay_program.proofs.output.print_digits.Goals as goal

pub loop-rest-init : goal.loop-rest-init
unfolding encode_with
loop-rest-init g c = ([], refl, Appends-none _)

pub loop-rest-preserved : goal.loop-rest-preserved
loop-rest-preserved g c =
    let s = c.loop-rest.invariant in
    let piece : List ℕ = c.split_at.result.0.now in (
      s.0 ++ piece,
      s.1 ∙ ap (λ (r : List ℕ). s.0 ++ r) c.split_at.ensures.by_index.0 ∙ sym (append_assoc s.0 piece c.split_at.result.1.now),
      subst (Appends (g.W.Write.contents c.args.writer.now) (g.W.Write.contents c.print_piece.new.writer)) (sym (encoded-append lower_digits s.0 piece))
          (Appends-append _ _ _ (encode_lower s.0) (encode_lower piece) s.2 c.in_ok-print_piece.ensures),
    )

pub returns : goal.returns
returns g c =
    let s = c.loop-rest.invariant in
    let rest : List ℕ = c.loop-rest.rest.now in
    on_ok_weaker c.print_piece-2.result
    (λ a. subst (Appends (g.W.Write.contents c.args.writer.now) (g.W.Write.contents c.print_piece-2.new.writer)) (sym (ap encode_lower s.1 ∙ encoded-append lower_digits s.0 rest))
    (Appends-append _ _ _ (encode_lower s.0) (encode_lower rest) s.2 a))
    c.print_piece-2.ensures
