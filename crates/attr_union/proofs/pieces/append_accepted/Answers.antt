use Rattle.std.proofs.Common.{◌≡◌, [], ◌∷◌, ◌++◌, ◌∙◌, ap, sym, subst, map, append_assoc, filter}
use Rattle.std.specs.FinMap as fin
use Rattle.std.specs.List.{AllByRecursion}
use Rattle.std.specs.Option.{option_map}
use Rattle.attr_list.specs.Pieces.{IsElement}
use Rattle.attr_list.proofs.PrintedAttributes.{element_of}
use Rattle.attr_union.specs.Unions.{piece_element}
use Rattle.attr_union.proofs.KeptPieces.{element-at, first_more, first-all, first-none, kept_of_first}
use Rattle.attr_union.proofs.pieces.append_accepted.Goals as goal
use Rattle.attr_union.proofs.pieces.append_accepted.Goals.{in-Some+in_ok-push_accepted, in_default}

pub returns-in_err-push_accepted-clause-sound : goal.returns-in_err-push_accepted-clause-sound
returns-in_err-push_accepted-clause-sound g c = λ before.
    let there = sym c.at.ensures ∙ ap (option_map (λ p. (p.0.now, p.1.now))) c.in-Some.is in
    c.push_accepted.ensures.sound (element-at (fin.entries c.args.attributes.now) c.loop-place.place _ c.len-place-end.ensures.kind there) (c.loop-place.invariant.sound before)

pub loop-place-preserved : goal.loop-place-preserved
loop-place-preserved g c =
    let i = c.loop-place.place in
    let a = c.args.attributes.now in
    let before = map piece_element c.args.pieces.now.items in
    let now = c.loop-place.invariant in
    elim c.match-at.branch [
      | in-Some+in_ok-push_accepted w ↦
          let there = sym c.at.ensures ∙ ap (option_map (λ p. (p.0.now, p.1.now))) w.in-Some.is in
          let after : map piece_element c.match-at.pieces.items ≡ map piece_element w.push_accepted.new.pieces.items = ap (λ v. map piece_element v.items) w.pieces-is in
          record {
            added = λ p answers.
                let so_far : map piece_element c.loop-place.pieces.items ≡ before ++ kept_of_first p a i = now.added p answers in
                let one = filter (λ e. p e.tag) (element_of (w.in-Some.tag.now, w.in-Some.held.now) ∷ []) in
                after ∙ w.in_ok-push_accepted.ensures.added p answers ∙ ap (λ es. es ++ one) so_far
                ∙ append_assoc before (kept_of_first p a i) one ∙ ap (λ es. before ++ es) (sym (first_more p a i _ there));
            sound = λ was.
                subst (AllByRecursion IsElement) (sym after)
                (w.push_accepted.ensures.sound (element-at (fin.entries a) i _ c.len-place-end.ensures.kind there) (now.sound was));
          }
      | in_default w ↦
          let none = sym c.at.ensures ∙ ap (option_map (λ p. (p.0.now, p.1.now))) w.in_default.is in
          let after : map piece_element c.match-at.pieces.items ≡ map piece_element c.loop-place.pieces.items = ap (λ v. map piece_element v.items) w.pieces-is in
          record {
            added = λ p answers. after ∙ now.added p answers ∙ ap (λ es. before ++ es) (sym (first-none p a i none));
            sound = λ was. subst (AllByRecursion IsElement) (sym after) (now.sound was);
          }
    ]

pub returns-clause-added : goal.returns-clause-added
returns-clause-added g c = λ p answers.
    c.loop-place.invariant.added p answers
    ∙ ap (λ es. map piece_element c.args.pieces.now.items ++ es) (first-all p c.args.attributes.now c.loop-place.place c.len-place-end.result c.len-place-end.ensures.value c.loop-place-test.false)
