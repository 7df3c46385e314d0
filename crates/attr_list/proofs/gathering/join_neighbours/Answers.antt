use Rattle.std.proofs.Common.{[], ◌∙◌, ap, sym, map}
use Rattle.std.specs.Prelude.{fold}
use Rattle.std.proofs.lemmas.List.{map_push}
use Rattle.std.proofs.lemmas.List.Sums.{fold_push}
use Rattle.attr_list.specs.Gathering.{joined_with}
use Rattle.attr_list.specs.Pieces.{element_in}
use Rattle.attr_list.proofs.gathering.join_neighbours.Goals as goal

pub loop-element-init : goal.loop-element-init
loop-element-init c = ap (map element_in) c.in_ok-joined.ensures.items

pub loop-element-preserved : goal.loop-element-preserved
loop-element-preserved c =
    c.in_ok-add.ensures ∙ ap (λ es. joined_with es (element_in c.in-Some.element)) c.loop-element.invariant
    ∙ sym (ap (fold joined_with []) (map_push element_in c.loop-element.yielded c.in-Some.element) ∙ fold_push joined_with [] (map element_in c.loop-element.yielded) (element_in c.in-Some.element))
