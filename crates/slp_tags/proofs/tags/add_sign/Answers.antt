use Rattle.std.proofs.Common.{◌≡◌, ◌++◌, ◌<◌, [], ◌∷◌, false, length, sym, ap, ◌∙◌, arith}
use Rattle.std.proofs.lemmas.Grind.{common_steps}
use Rattle.std.proofs.lemmas.List.{nil_from_length}
use Rattle.slp_tags.specs.Parts.{part_with}
use Rattle.slp_tags.specs.Tags.{is_white_sign, sign_bytes}
use Rattle.slp_tags.proofs.TagLists.{part_with-gap, part_with-next, part_with-first}
use Rattle.slp_tags.proofs.tags.add_sign.Goals as goal
use Rattle.slp_tags.proofs.tags.add_sign.Goals.{then-gap+then-not-is_empty+in_ok-push, else-gap, else-gap-via-then-gap+else-not-is_empty, else-gap-via-else-gap}

pub returns : goal.returns
returns c = λ rest.
    let s = c.args.sign in
    let before = c.args.part.now.items in
    let plain : is_white_sign s ≡ false = sym c.is_white_sign.ensures ∙ c.if-is_white_sign.false in
    elim c.if-gap.branch [
      | then-gap+then-not-is_empty+in_ok-push w ↦
          let k = w.if-not-is_empty.true in
          let m = w.is_empty.ensures in
          let some : 0 < length before = grind (arith, common_steps) in
          ap (λ p. part_with false p rest) (c.in_ok-push_sign.ensures ∙ ap (λ p. p ++ sign_bytes s) (ap (λ v. v.items) w.part-is ∙ w.in_ok-push.ensures.items))
          ∙ part_with-gap before s rest some plain ∙ ap (λ g. part_with g before (s ∷ rest)) (sym w.if-gap.true)
      | else-gap w ↦
          let is = c.in_ok-push_sign.ensures ∙ ap (λ p. p ++ sign_bytes s) (ap (λ v. v.items) w.part-is) in
          elim w.else-gap.branch [
            | else-gap-via-then-gap+else-not-is_empty w' ↦
                let none : before ≡ [] = let k = w'.if-not-is_empty.false in let m = w'.is_empty.ensures in nil_from_length before (grind (arith, common_steps)) in
                ap (λ p. part_with false p rest) is ∙ part_with-first c.args.gap before s rest none plain
            | else-gap-via-else-gap w' ↦ ap (λ p. part_with false p rest) is ∙ part_with-next before s rest plain ∙ ap (λ g. part_with g before (s ∷ rest)) (sym w'.if-gap.false)
          ]
    ]
