use Rattle.std.proofs.Common.{◌≡◌, ℕ, ◌+◌, ◌++◌, ◌<◌, List, [], length, get_or, true, false, sym, ap, subst, ◌∙◌, arith, append_assoc, refl, rules}
use Rattle.std.specs.Prelude.{string_bytes, IfSome}
use Rattle.std.proofs.lemmas.List.{length-append}
use Rattle.std.proofs.lemmas.Option.{slice_get-get_or}
use Rattle.slp_replies.specs.TextLists.{list_with, written_next}
use Rattle.slp_replies.proofs.TextFronts.{cut_front, list-next, whole_front}
use Rattle.slp_replies.proofs.texts.list.Goals as goal

pub returns-then-not-branch-clause-front : goal.returns-then-not-branch-clause-front
returns-then-not-branch-clause-front g c = λ left whole.
    let texts = g.T.Texts.texts c.args.texts.now in
    let i = c.loop-place.place in
    let start = string_bytes c.args.out.now in
    let t = get_or texts i [] in
    let some : i < length texts = omega (arith, c.loop-place-test.true, c.number-place-end.ensures) in
    let at = slice_get-get_or texts i [] some in
    let no : c.in_ok-add.field-0 ≡ false = search rules in
    let stays = c.in_ok-add.ensures.stays no ∙ c.loop-place.invariant.listed in
    let before = string_bytes c.loop-place.out in
    let over : c.args.room < length (before ++ written_next i t) = subst (λ o. IfSome o (λ u. c.args.room < length (before ++ written_next i u))) at (c.in_ok-add.ensures.over no) in
    let next : before ++ written_next i t ≡ start ++ list_with texts (i + 1) =
    ap (λ l. l ++ written_next i t) c.loop-place.invariant.listed ∙ append_assoc start (list_with texts i) (written_next i t) ∙ ap (λ l. start ++ l) (sym (list-next texts i t at)) in
    let long = length-append start (list_with texts (i + 1)) in
    let short = length-append start (list_with texts i) in
    let now = ap (λ (l : List ℕ). length l) c.loop-place.invariant.listed in
    let then = ap (λ (l : List ℕ). length l) next in
    record {
      list = list_with texts i;
      appended = stays;
      front = cut_front left texts i (list_with texts i) true some refl (omega (arith, whole, short, now, c.loop-place.invariant.fits)) (omega (arith, whole, over, then, long)) refl;
    }

pub loop-place-preserved : goal.loop-place-preserved
loop-place-preserved g c =
    let texts = g.T.Texts.texts c.args.texts.now in
    let i = c.loop-place.place in
    let start = string_bytes c.args.out.now in
    let t = get_or texts i [] in
    let some : i < length texts = omega (arith, c.loop-place-test.true, c.number-place-end.ensures) in
    let at = slice_get-get_or texts i [] some in
    let yes : c.in_ok-add.field-0 ≡ true = search rules in
    let before = string_bytes c.loop-place.out in
    let listed = subst (λ o. IfSome o (λ u. string_bytes c.add.new.out ≡ before ++ written_next i u)) at (c.in_ok-add.ensures.listed yes) in record {
      listed = listed ∙ ap (λ l. l ++ written_next i t) c.loop-place.invariant.listed ∙ append_assoc start (list_with texts i) (written_next i t) ∙ ap (λ l. start ++ l) (sym (list-next texts i t at));
      fits = c.in_ok-add.ensures.fits yes;
    }

pub returns-clause-front : goal.returns-clause-front
returns-clause-front g c = λ left whole.
    let texts = g.T.Texts.texts c.args.texts.now in
    let start = string_bytes c.args.out.now in
    let short = length-append start (list_with texts c.loop-place.place) in
    let now = ap (λ (l : List ℕ). length l) c.loop-place.invariant.listed in
    record {
      list = list_with texts c.loop-place.place;
      appended = c.loop-place.invariant.listed;
      front = whole_front left texts c.loop-place.place (list_with texts c.loop-place.place) false (omega (arith, c.loop-place-test.false, c.number-place-end.ensures)) refl (omega (arith, whole, short, now, c.loop-place.invariant.fits)) refl;
    }
